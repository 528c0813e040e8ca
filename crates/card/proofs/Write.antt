-- Laws of what specs/Write.antt defines.
use Rattle.std.specs.Prelude.{◌≡◌, Bool, true, false, List, [], ◌++◌, ℕ, ◌<◌, length, get_or, drop}
use Rattle.std.proofs.Common.{sym, ap, ◌∙◌, arith, take-append-drop, ext_get_or}
use Rattle.automata.specs.Format.{Format}
use Rattle.automata.specs.Machine.{Machine, size, automaton}
use Rattle.automata.specs.Live.{live}
use Rattle.automata.specs.Rows.{flat, rows_length, rows_wide, flat_rows}
use Rattle.card.specs.Number.{Bytes, bytes_of}
use Rattle.card.proofs.Number.{below_append, bytes_of_bytes}
use Rattle.card.specs.Mark.{marks, mark_by, marks_get_or, marks_length}
use Rattle.card.specs.Layout.{Sound, bodies, contents_numbers, contents, encode, contents_at, letter_count, state_count, letter_at, mark_at, move_at, letters_of, marks_of, moves_of, machine_of, Contents, Fits}
use Rattle.card.proofs.LayoutLaws.{letters_length, marks_of_length, moves_length, letters_at, marks_at, step_at, card_parts, contents_read, encode_letter_count, encode_state_count, encode_contents, decode_letters, decode_marks, decode_machine}
use Rattle.card.specs.Alphabet.{Alphabet}
use Rattle.card.specs.Write.{Written}

module _ (fmt : Format) (s : Sound fmt) (ls : List ℕ) (M : Machine) (f : Fits fmt ls M) where
  abbrev c : List ℕ
  c = encode fmt ls M

  r : Contents fmt c
  r = encode_contents fmt s ls M f

  -- ---- the bytes by place

  pub encode_letter_at : (i : ℕ) → i < length ls → letter_at fmt (encode fmt ls M) i ≡ get_or ls i 0
  encode_letter_at i h = sym (letters_at fmt c r i (rw (encode_letter_count fmt s ls M f) h)) ∙ ap (λ l. get_or l i 0) (decode_letters fmt s ls M f)

  pub encode_mark_at : (p : ℕ) → p < size M → mark_at fmt (encode fmt ls M) p ≡ get_or (marks (length ls) M) p 0
  encode_mark_at p h = sym (marks_at fmt c r p (rw (encode_state_count fmt s ls M f) h)) ∙ ap (λ l. get_or l p 0) (decode_marks fmt s ls M f)

  pub encode_move_at : (p i : ℕ) → p < size M → i < length ls → move_at fmt (encode fmt ls M) p i ≡ (automaton M).step p i
  encode_move_at p i h b =
      sym (step_at fmt c p i (rw (encode_state_count fmt s ls M f) h) (rw (encode_letter_count fmt s ls M f) b)) ∙ ap (λ N. (automaton N).step p i) (decode_machine fmt s ls M f)

-- ---- a writer's bytes are the encoding

module _ (fmt : Format) (s : Sound fmt) (c ls : List ℕ) (M : Machine) (f : Fits fmt ls M) (w : Written fmt c ls M) where
  number : (q : ℕ) → q < 6 → contents_at fmt c q ≡ get_or (contents_numbers fmt (length ls) (size M)) q 0
  number q v = ap (λ l. contents_at fmt l q) (sym (take-append-drop (bodies fmt) c) ∙ ap (λ h. h ++ drop (bodies fmt) c) w.head)
      ∙ contents_read fmt s (length ls) (size M) f.letters_most f.states_most (drop (bodies fmt) c) q v

  letters_count : letter_count fmt c ≡ length ls
  letters_count = number 1 (omega arith)

  states_count : state_count fmt c ≡ size M
  states_count = number 3 (omega arith)

  right : Contents fmt c
  right = record {
    letters_least = rw letters_count f.letters_least;
    letters_most = rw letters_count f.letters_most;
    states_some = rw states_count f.formed.some;
    states_most = rw states_count f.states_most;
    letters_offset = number 0 (omega arith);
    marks_offset = rw letters_count (number 2 (omega arith));
    moves_offset = rw (letters_count, states_count) (number 4 (omega arith));
    moves_count = rw (letters_count, states_count) (number 5 (omega arith));
    long = rw (letters_count, states_count) w.long;
  }

  letters≡ : letters_of fmt c ≡ ls
  letters≡ = ext_get_or 0 (letters_of fmt c) ls (letters_length fmt c right ∙ letters_count) λ i b.
      let h : i < letter_count fmt c = rw (letters_length fmt c right) at b in
      letters_at fmt c right i h ∙ w.letter i (rw letters_count at h)

  marks≡ : marks_of fmt c ≡ marks (length ls) M
  marks≡ = ext_get_or 0 (marks_of fmt c) (marks (length ls) M) (marks_of_length fmt c right ∙ states_count ∙ sym (marks_length (length ls) M)) λ p b.
      let h : p < state_count fmt c = rw (marks_of_length fmt c right) at b in
      marks_at fmt c right p h ∙ (rw letters_count (w.mark p (rw states_count at h)))

  rows≡ : (machine_of fmt c).moves ≡ M.moves
  rows≡ = ext_get_or [] (machine_of fmt c).moves M.moves (tall ∙ sym f.formed.rows) λ p b. row p (rw tall at b)
    where
      tall₀ : length (machine_of fmt c).moves ≡ state_count fmt c
      tall₀ = unfold machine_of in rows_length (state_count fmt c) (letter_count fmt c) (moves_of fmt c)

      tall : length (machine_of fmt c).moves ≡ size M
      tall = tall₀ ∙ states_count

      wide₀ : (p : ℕ) → p < state_count fmt c → length (get_or (machine_of fmt c).moves p []) ≡ letter_count fmt c
      wide₀ p h = unfold machine_of in rows_wide (state_count fmt c) (letter_count fmt c) (moves_of fmt c) p (moves_length fmt c) h

      wide : (p : ℕ) → p < size M → length (get_or (machine_of fmt c).moves p []) ≡ length ls
      wide p h = wide₀ p (rw states_count h) ∙ letters_count

      row : (p : ℕ) → p < size M → get_or (machine_of fmt c).moves p [] ≡ get_or M.moves p []
      row p h = ext_get_or 0 (get_or (machine_of fmt c).moves p []) (get_or M.moves p []) (wide p h ∙ sym (f.formed.wide p h)) λ i b.
          let v : i < length ls = rw (wide p h) at b in
          step_at fmt c p i (rw states_count h) (rw letters_count v) ∙ (rw (letters_count, states_count) (w.move p i h v))

  -- WRITTEN BYTES are the encoding.
  pub written_encode : c ≡ encode fmt ls M
  unfolding encode
  written_encode = card_parts fmt c right w.bytes
      ∙ (λ i. contents fmt (letters_count i) (states_count i) ++ (letters≡ i ++ (marks≡ i ++ bytes_of fmt.move_bytes (moves≡ i))))
    where
      flat₀ : flat (machine_of fmt c).moves ≡ moves_of fmt c
      flat₀ = unfold machine_of in flat_rows (state_count fmt c) (letter_count fmt c) (moves_of fmt c) (moves_length fmt c)

      moves≡ : moves_of fmt c ≡ flat M.moves
      moves≡ = sym flat₀ ∙ ap flat rows≡

-- ---- every byte fits

mark_small : (a b : Bool) → mark_by a b < 256
mark_small true b = omega arith
mark_small false true = omega arith
mark_small false false = omega arith

-- EVERY BYTE OF A CARD fits.
pub encode_bytes : (fmt : Format) (ls : List ℕ) (M : Machine) → Alphabet ls → Bytes (encode fmt ls M)
unfolding encode
encode_bytes fmt ls M a =
    below_append 256 (contents fmt (length ls) (size M)) (ls ++ (marks (length ls) M ++ body)) (bytes_of_bytes fmt.number_bytes (contents_numbers fmt (length ls) (size M)))
    (below_append 256 ls (marks (length ls) M ++ body) (λ i h. let t = a.letter i h in omega arith)
    (below_append 256 (marks (length ls) M) body small (bytes_of_bytes fmt.move_bytes (flat M.moves))))
  where
    body : List ℕ
    body = bytes_of fmt.move_bytes (flat M.moves)

    small : Bytes (marks (length ls) M)
    small p h = let v : p < size M = rw (marks_length (length ls) M) at h in rw (marks_get_or (length ls) M p v) (mark_small ((automaton M).accepting p) (get_or (live (length ls) M) p false))
