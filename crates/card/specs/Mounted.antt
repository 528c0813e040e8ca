-- The boards that were mounted before W2: "mounted ones refuse m = 0 by 21", and answer every other card as those that were mounted after them. They were
-- mounted before W3 too, so that they reply without the number (MountedVerdict.antt) and step as MountedStep.antt says.
use Rattle.automata.specs.Format.{Format, narrow}

-- "length m (1 to 26)": their test 21 is that of 01, and every other limit is today's.
abbrev pub mounted : Format
mounted = record {
  least_letters = 1;
  most_letters = narrow.most_letters;
  most_states = narrow.most_states;
  most_sets = narrow.most_sets;
  most_names = narrow.most_names;
  number_bytes = narrow.number_bytes;
  move_bytes = narrow.move_bytes;
}
