-- A program over the lent buffers, code by code: the run of its codes on the machines that the slots hold.
use Rattle.std.specs.Prelude.{◌≡◌, refl, Bool, true, false, Result, Ok, Err, get_or}
use Rattle.std.proofs.Math.Path.{sym, ap, ap₂, subst}
use Rattle.std.proofs.Common.{◌∙◌, add-one, arith}
use mathlib.Core.List.{List, [], ◌∷◌, ◌++◌, append-nil}
use Prim.Native.Nat.{ℕ, suc, max, ◌+◌, ◌≤◌, ◌<◌}
use Rattle.std.proofs.Math.ListN.{length, drop}
use Rattle.std.proofs.Math.Seq.{drop-cons, drop-length}
use Rattle.automata.specs.Booleans.{choose}
use Rattle.automata.specs.Machine.{Machine}
use Rattle.book.specs.Kind.{is_name}
use Rattle.book.specs.StackLaws.{height_after, height_while, besides, highest}
use Rattle.slots.specs.Slot.{Slot}
use Rattle.codes.specs.Execute.{Store, Ran, ran, failed, stuck, after_ran, then_ran, step, execute, after_after, after_none}
use Rattle.operands.specs.Stack.{Slots}
use Rattle.operands.specs.Operand.{name_slot, Shelves}
use Rattle.answers.specs.Refusal.{refusal_of as refused_number}
use Rattle.operations.specs.Apply.{format_of, greatest, greatest_both, tallest, Lent, lent_kept}
use Rattle.evaluate.specs.Steps.{store_of, book_in, Gives, Stands, Shelved, Stood, Stepping, Steps}
use Rattle.answers.specs.declared.Scratch.{Scratch}
use Rattle.answers.specs.Scratch.{SameRoom, same_room, room_on}
use Rattle.operands.specs.declared.Layout.{Layout}
use Rattle.evaluate.specs.declared.run.Stepped.{Stepped}
use Rattle.evaluate.specs.declared.run.Failure.{Failure}
use Rattle.evaluate.specs.declared.run.Failure.TheVariants.{TooMany, Stuck}

-- the height behind a program, from the height h
abbrev pub height_of : ℕ → List ℕ → ℕ
height_of h [] = h
height_of h (c ∷ cs) = height_of (height_after c h) cs

-- The slots of the names that the program has hold machines.
abbrev pub NamesHeld : Layout → ℕ → List ℕ → List ℕ → List ℕ → Type 0
NamesHeld l m first second code = (i : ℕ) → i < length code → is_name (get_or code i 0) ≡ true → Slot l.limits.states (suc m) (name_slot l.size first second (get_or code i 0))

-- and each what the name stands for
abbrev pub AllStood : Layout → ℕ → List ℕ → List ℕ → List (ℕ × Machine) → List ℕ → Type 0
AllStood l m first second env code = (i : ℕ) → i < length code → Stood l m first second env (get_or code i 0)

pub record Running (l : Layout) (ls first second registers code stack : List ℕ) (scratch : Scratch) : Type 0 where
  pub shelves : Shelves l (length ls) first second registers
  pub lent : Lent l (length ls) stack scratch
  pub held : Slots l.limits.states (suc (length ls)) l.size 3 registers
  pub height : highest 0 code ≤ tallest
  pub names : NamesHeld l (length ls) first second code

pub record Runs (l : Layout) (ls first second code registers₀ stack₀ registers stack : List ℕ) (r : Result Stepped Failure) : Type 0 where
  pub gives : (env : List (ℕ × Machine)) → AllStood l (length ls) first second env code
      → Gives l (length ls) registers stack r (execute (format_of l) ls env (book_in l (length ls) registers₀) code (store_of l (length ls) 0 stack₀ registers₀))
  pub stands : Stands l (length ls) stack r (height_of 0 code)
  pub shelved : Shelved l (length ls) registers₀ registers
  pub long : length stack ≡ length stack₀

shelves_kept : {l : Layout} {m : ℕ} {first second registers registers' : List ℕ} → Shelves l m first second registers → length registers' ≡ length registers → Shelves l m first second registers'
shelves_kept S e = record { states = S.states; letters = S.letters; slot = S.slot; first_long = S.first_long; second_long = S.second_long; registers_long = rw e S.registers_long }

-- a program's greatest height is no less than where it begins
highest_from : (cs : List ℕ) (h : ℕ) → h ≤ highest h cs
highest_from [] h = omega arith
highest_from (c ∷ cs) h = go (besides c)
  where
    go : (t : Bool) → h ≤ max (choose t (λ _. suc h) (λ _. h)) (highest (height_after c h) cs)
    go true = omega arith
    go false = omega arith

-- ---- part of a program has run

module _ (l : Layout) (ls first second code registers₀ stack₀ : List ℕ) (scratch₀ : Scratch) where
  abbrev m : ℕ
  m = length ls

  abbrev whole : List (ℕ × Machine) → Ran
  whole env = execute (format_of l) ls env (book_in l m registers₀) code (store_of l m 0 stack₀ registers₀)

  -- The first i codes have run: what is left, on the machines that the slots hold now, gives the rest.
  pub record Going (registers stack : List ℕ) (scratch : Scratch) (sp peak i : ℕ) : Type 0 where
    pub inside : i ≤ length code
    pub gives : (env : List (ℕ × Machine)) → AllStood l m first second env code
        → (counts : List ℕ) × (greatest counts ≡ peak) × (whole env ≡ after_ran counts (execute (format_of l) ls env (book_in l m registers₀) (drop i code) (store_of l m sp stack registers)))
    pub slots : Slots l.limits.states (suc m) l.size sp stack
    pub shelved : Shelved l m registers₀ registers
    pub tall : highest sp (drop i code) ≤ tallest
    pub height : height_of sp (drop i code) ≡ height_of 0 code
    pub stack_long : length stack ≡ length stack₀
    pub room : SameRoom scratch₀ scratch

  module _ (R : Running l ls first second registers₀ code stack₀ scratch₀) where
    pub going_start : Going registers₀ stack₀ scratch₀ 0 0 0
    going_start = record {
      inside = omega arith;
      gives = λ env N. ([], refl, sym (after_none (whole env)));
      slots = record { held = λ i h. absurd (omega arith) };
      shelved = record { held = R.held; book = refl; long = refl };
      tall = R.height;
      height = refl;
      stack_long = refl;
      room = same_room scratch₀;
    }

    module _ {registers stack : List ℕ} {scratch : Scratch} {sp peak i : ℕ} (G : Going registers stack scratch sp peak i) where
      module _ (h : i < length code) where
        c : ℕ
        c = get_or code i 0

        split : drop i code ≡ c ∷ drop (suc i) code
        unfolding c
        split = drop-cons code i 0 h

        tall_split : max (height_while c sp) (highest (height_after c sp) (drop (suc i) code)) ≤ tallest
        tall_split = subst (λ q. highest sp q ≤ tallest) split G.tall

        pub going_step : Stepping l ls first second registers (get_or code i 0) sp stack scratch
        unfolding c
        going_step = record {
          shelves = shelves_kept R.shelves G.shelved.long;
          lent = lent_kept R.lent G.stack_long G.room;
          slots = G.slots;
          held = G.shelved.held;
          meanwhile = omega (arith, tall_split);
          behind = omega (arith, tall_split, highest_from (drop (suc i) code) (height_after c sp));
          name = R.names i h;
        }

        abbrev rest : List (ℕ × Machine) → Store → Ran
        rest env s = execute (format_of l) ls env (book_in l m registers₀) (drop (suc i) code) s

        -- the run from this code on
        from_here : (env : List (ℕ × Machine)) → execute (format_of l) ls env (book_in l m registers₀) (drop i code) (store_of l m sp stack registers)
            ≡ then_ran (step (format_of l) ls env (book_in l m registers) (store_of l m sp stack registers) c) (rest env)
        unfolding execute
        from_here env = ap (λ q. execute (format_of l) ls env (book_in l m registers₀) q (store_of l m sp stack registers)) split
            ∙ ap (λ b. then_ran (step (format_of l) ls env b (store_of l m sp stack registers) c) (rest env)) (sym G.shelved.book)

        module _ {registers' stack' : List ℕ} {q : Result Stepped Failure} (S : Steps l ls first second (get_or code i 0) sp registers stack registers' stack' q) where
          shelved_on : Shelved l m registers₀ registers'
          shelved_on = record { held = S.shelved.held; book = S.shelved.book ∙ G.shelved.book; long = S.shelved.long ∙ G.shelved.long }

          pub going_next : {scratch' : Scratch} (x : Stepped) (p : ℕ) → q ≡ Ok x → p ≡ max peak x.sets → SameRoom scratch scratch'
              → Going registers' stack' scratch' x.height p (i + 1)
          unfolding c
          going_next {scratch'} x p e f k =
              let (t, T) = subst (λ q. Stands l m stack' q (height_after (get_or code i 0) sp)) e S.stands in
              record {
                inside = omega arith;
                gives = λ env N. on env N (G.gives env N) (subst (λ q. Gives l m registers' stack' q (step (format_of l) ls env (book_in l m registers) (store_of l m sp stack registers) (get_or code i 0))) e (S.gives env (N i h)));
                slots = T;
                shelved = shelved_on;
                tall = subst (λ j. highest x.height (drop j code) ≤ tallest) (sym (add-one i)) (subst (λ y. highest y (drop (suc i) code) ≤ tallest) (sym t) (omega (arith, tall_split)));
                height = ap (λ j. height_of x.height (drop j code)) (add-one i) ∙ ap (λ y. height_of y (drop (suc i) code)) t ∙ ap (height_of sp) (sym split) ∙ G.height;
                stack_long = S.long ∙ G.stack_long;
                room = room_on scratch₀ scratch scratch' G.room k;
              }
            where
              on : (env : List (ℕ × Machine)) → AllStood l m first second env code
                  → (counts : List ℕ) × (greatest counts ≡ peak) × (whole env ≡ after_ran counts (execute (format_of l) ls env (book_in l m registers₀) (drop i code) (store_of l m sp stack registers)))
                  → (more : List ℕ) × (greatest more ≡ x.sets) × (step (format_of l) ls env (book_in l m registers) (store_of l m sp stack registers) (get_or code i 0) ≡ ran more (store_of l m x.height stack' registers'))
                  → (counts : List ℕ) × (greatest counts ≡ p) × (whole env ≡ after_ran counts (execute (format_of l) ls env (book_in l m registers₀) (drop (i + 1) code) (store_of l m x.height stack' registers')))
              on env N (counts, g, w) (more, g', y) = (
                counts ++ more,
                greatest_both counts more ∙ ap₂ max g g' ∙ sym f,
                w ∙ ap (after_ran counts) (from_here env ∙ ap (λ X. then_ran X (rest env)) y) ∙ after_after counts more (rest env (store_of l m x.height stack' registers'))
                    ∙ ap (λ j. after_ran (counts ++ more) (execute (format_of l) ls env (book_in l m registers₀) (drop j code) (store_of l m x.height stack' registers'))) (sym (add-one i)),
              )

          -- where a code stops, the run does
          stops : (env : List (ℕ × Machine)) → AllStood l m first second env code → (X : Ran) → step (format_of l) ls env (book_in l m registers) (store_of l m sp stack registers) c ≡ X
              → (counts : List ℕ) × (whole env ≡ after_ran counts (then_ran X (rest env)))
          stops env N X y = let (counts, g, w) = G.gives env N in (counts, w ∙ ap (after_ran counts) (from_here env ∙ ap (λ X. then_ran X (rest env)) y))

          pub going_stops : (e : Failure) → q ≡ Err e → Runs l ls first second code registers₀ stack₀ registers' stack' (Err e)
          unfolding c
          going_stops e y = record {
            gives = λ env N. ended e env N (subst (λ q. Gives l m registers' stack' q (step (format_of l) ls env (book_in l m registers) (store_of l m sp stack registers) (get_or code i 0))) y (S.gives env (N i h)));
            stands = tt;
            shelved = shelved_on;
            long = S.long ∙ G.stack_long;
          }
            where
              ended : (e : Failure) (env : List (ℕ × Machine)) → AllStood l m first second env code → Gives l m registers' stack' (Err e) (step (format_of l) ls env (book_in l m registers) (store_of l m sp stack registers) (get_or code i 0))
                  → Gives l m registers' stack' (Err e) (whole env)
              ended (TooMany e) env N y = (stops env N (failed (refused_number e)) y).1
              ended Stuck env N y = (stops env N stuck y).1

      pub going_end : length code ≤ i → Runs l ls first second code registers₀ stack₀ registers stack (Ok (record { height = sp; sets = peak }))
      unfolding execute
      going_end h = record {
        gives = λ env N. end env (G.gives env N);
        stands = (ap (height_of sp) (sym none) ∙ G.height, G.slots);
        shelved = G.shelved;
        long = G.stack_long;
      }
        where
          none : drop i code ≡ []
          none = let z : i ≡ length code = omega (arith, G.inside) in ap (λ j. drop j code) z ∙ drop-length code

          end : (env : List (ℕ × Machine))
              → (counts : List ℕ) × (greatest counts ≡ peak) × (whole env ≡ after_ran counts (execute (format_of l) ls env (book_in l m registers₀) (drop i code) (store_of l m sp stack registers)))
              → (counts : List ℕ) × (greatest counts ≡ peak) × (whole env ≡ ran counts (store_of l m sp stack registers))
          end env (counts, g, w) = (counts, g, w ∙ ap (λ q. after_ran counts (execute (format_of l) ls env (book_in l m registers₀) q (store_of l m sp stack registers))) none ∙ ap (λ cs. ran cs (store_of l m sp stack registers)) (append-nil counts))
