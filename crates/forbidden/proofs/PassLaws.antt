-- What holds in the pass after the letters from i on, and what its parts require and leave.
use mathlib.Core.Path.{◌≡◌, refl, sym, ap, ◌∙◌, subst}
use mathlib.Core.Logic.{◌≢◌}
use mathlib.Core.List.{List, []}
use Prim.Native.Nat.{ℕ, suc, ◌+◌, ◌-◌, ◌≤◌, ◌<◌}
use native.Mathlib.Numerals.{add-one}
use native.Mathlib.Omega.{arith}
use mathlib.Core.List.{◌++◌}
use lib.ListN.{length, get_or, take, drop}
use lib.Seq.{take-length, drop-length}
use Rattle.std.proofs.lemmas.List.{append-nil}
use Rattle.automata.specs.Format.{narrow}
use Rattle.card.specs.Layout.{letter_count, state_count, letters_of, marks_of, moves_of}
use Rattle.card.proofs.LayoutLaws.{letters_length, marks_of_length}
use Rattle.card.specs.Alphabet.{column, Known}
use Rattle.card.proofs.Alphabet.{known_at}
use Rattle.card.specs.Loads.{Loaded}
use Rattle.card.proofs.Loads.{load_loaded}
use Rattle.card.specs.Judge.{card_allows}
use Rattle.factor.specs.Factor.{Inside, at}
use Rattle.moves.specs.Holds.{Table}
use Rattle.moves.specs.TableLaws.{move_inside}
use Rattle.ends.specs.Ends.{DeadState, Filled, Stepping, Stepped}
use Rattle.fields.specs.Counts.{Counted}
use Rattle.std.specs.Prelude.{Option, Some, None}
use Rattle.run.specs.Walk.{Ready, ColumnTable}
use Rattle.run.specs.Cards.{bytes_of, letters_in, states_in, ready_of}
use Rattle.run.specs.declared.walker.Walker.{Walker}
use Rattle.forbidden.specs.declared.Stretch.{Stretch}
use Rattle.forbidden.specs.Reading.{shortest_in}
use Rattle.forbidden.specs.Pass.{Searched, Bettered}
use Rattle.forbidden.proofs.PlacesLaws.{Places, something, nothing, places_start, places_step, last_low, last_inside, last_start}
use Rattle.forbidden.proofs.BestLaws.{BestFrom, best_start, best_next, best_last}

-- A card that loads, with its table of columns, and a plan of its letters.
pub record Searchable (c : List ℕ) (m n : ℕ) (table plan : List ℕ) : Type 0 where
  pub ready : Ready c m n
  pub columns : ColumnTable (letters_of narrow c) table
  pub known : Known (letters_of narrow c) plan

-- what the pass is given
pub searchable_of : (walker : Walker) (plan : List ℕ) → Known (letters_of narrow (bytes_of walker.card)) plan
    → Searchable (bytes_of walker.card) (letters_in walker.card) (states_in walker.card) walker.columns plan
searchable_of walker plan k = record { ready = ready_of walker.card; columns = walker.right; known = k }

pub record Under (c : List ℕ) (m n : ℕ) (table plan : List ℕ) (dead never i : ℕ) (before after : List ℕ) (b : Option Stretch) : Type 0 where
  pub searchable : Searchable c m n table plan
  pub first : DeadState (marks_of narrow c) dead
  pub some : Inside (card_allows narrow c) []
  pub far : never ≡ suc (length plan)
  pub low : i ≤ length plan
  pub rows : (n < length before) × (n < length after)
  pub entries : Places c plan (suc (length plan)) i before
  pub best : BestFrom (card_allows narrow c) plan i b

module _ (c : List ℕ) (m n : ℕ) (table plan : List ℕ) (S : Searchable c m n table plan) where
  loaded : Loaded narrow c
  loaded = load_loaded narrow c S.ready.loads

  pub searched_counted : Counted narrow c m n
  searched_counted = record { right = loaded.contents; letters = S.ready.letters; states = S.ready.states }

  module _ (marks : List ℕ) (d : ℕ) (e : marks ≡ marks_of narrow c) (D : DeadState marks d) where
    dead_first : DeadState (marks_of narrow c) d
    dead_first = subst (λ l. DeadState l d) e D

    pub dead_most : d ≤ n
    dead_most = omega (arith, dead_first.most, marks_of_length narrow c loaded.contents, S.ready.states)

    -- a card that allows nothing
    pub pass_nothing : d ≡ 0 → Searched c plan (Some (record { start = 0; length = 0 }))
    pass_nothing z = record { answer = at 0 0; is = refl; right = nothing c loaded plan S.known d dead_first z }

    many : length marks ≡ n
    many = ap length e ∙ marks_of_length narrow c loaded.contents ∙ S.ready.states

    module _ (k : ℕ) (q : k ≡ length marks) where
      pub fill_room : (old : List ℕ) → n < length old → (k < length (take (length old) old)) × (d ≤ k)
      fill_room old h = (rw (take-length old) (omega (arith, q, many)), omega (arith, q, many, dead_most))

    pub under_start : (k : ℕ) (old new after : List ℕ) → k ≡ length marks → d ≢ 0 → (n < length old) × (n < length after)
        → Filled k d (length plan) (length plan + 1) (take (length old) old) new
        → Under c m n table plan d (length plan + 1) (length plan) (new ++ drop (length old) old) after None
    under_start k old new after q f r F₀ = rw (drop-length old, append-nil new) (record {
      searchable = S;
      first = dead_first;
      some = s;
      far = add-one (length plan);
      low = omega arith;
      rows = (omega (arith, F.long), r.1);
      entries = places_start c loaded plan S.known d old new dead_first (rw (S.ready.states, ← add-one (length plan)) F);
      best = best_start (card_allows narrow c) plan s;
    })
      where
        F : Filled n d (length plan) (length plan + 1) old new
        F = rw (take-length old, q ∙ many) at F₀

        s : Inside (card_allows narrow c) []
        s = something c loaded plan S.known d dead_first f

module _ (c : List ℕ) (m n : ℕ) (table plan : List ℕ) (d never i : ℕ) (old after : List ℕ) (b : Option Stretch) (U : Under c m n table plan d never i old after b) where
  abbrev S : Searchable c m n table plan
  S = U.searchable

  pub under_before : 0 < i → i - 1 < length plan
  under_before p = omega (arith, U.low)

  module _ (p : 0 < i) (byte : get_or plan (i - 1) 0 < 256) where
    abbrev k : ℕ
    k = get_or table (get_or plan (i - 1) 0) 0

    before : i - 1 < length plan
    before = under_before p

    is : k ≡ column (letters_of narrow c) (get_or plan (i - 1) 0)
    is = S.columns.entry (get_or plan (i - 1) 0) byte

    -- the letter's column is one of the card's
    under_column : k < m
    under_column = rw (is, ← S.ready.letters, ← letters_length narrow c (loaded c m n table plan S).contents) (known_at (letters_of narrow c) plan S.known (i - 1) before)

    -- the table of moves, of x letters
    module _ (x : ℕ) (q : x ≡ m) (ms bs : List ℕ) (f : ms ≡ marks_of narrow c) (e : bs ≡ moves_of narrow c) where
      states : length ms ≡ n
      states = ap length f ∙ marks_of_length narrow c (loaded c m n table plan S).contents ∙ S.ready.states

      pub under_stepping : Table 120 x ms bs → (w : ℕ) → w ≡ length ms → Stepping bs x w k d (take (length old) old) (take (length after) after)
      under_stepping t w z = rw (take-length old, take-length after, z) (record {
        known = rw q under_column;
        table = t.long;
        inside = λ p h. move_inside _ _ _ _ t p k h (rw q under_column);
        most = omega (arith, U.first.most, ap length f);
        before = omega (arith, states, U.rows.0);
        after = omega (arith, states, U.rows.1);
      })

      module _ (new : List ℕ) (last : ℕ) (T₀ : Stepped bs x (length ms) k d (i - 1) (take (length old) old) (take (length after) after) new last) where
        T : Stepped bs x (length ms) k d (i - 1) old after new last
        T = rw (take-length old, take-length after) at T₀

        whole : suc (i - 1) ≡ i
        whole = omega arith

        entries : Places c plan (suc (length plan)) (suc (i - 1)) old
        entries = subst (λ j. Places c plan (suc (length plan)) j old) (sym whole) U.entries

        stepped : Stepped (moves_of narrow c) (letter_count narrow c) (state_count narrow c) (column (letters_of narrow c) (get_or plan (i - 1) 0)) d (i - 1) old after new last
        stepped = rw (S.ready.letters, ← q, S.ready.states, ← states, ← is, ← e) T

        pub under_last : i - 1 ≤ last
        under_last = omega (arith, last_low c (loaded c m n table plan S) plan S.known (i - 1) before old entries d after new last stepped)

        -- ONE LETTER MORE.
        pub under_next : (r : Option Stretch) → Bettered b (i - 1) last never r → Under c m n table plan d never (i - 1) (new ++ drop (length after) after) old r
        under_next r B = rw (drop-length after, append-nil new) (record {
          searchable = S;
          first = U.first;
          some = U.some;
          far = U.far;
          low = omega (arith, U.low);
          rows = (omega (arith, T.long, U.rows.1), U.rows.0);
          entries = places_step c (loaded c m n table plan S) plan S.known (i - 1) before old entries d after new last stepped U.first;
          best = best_next (card_allows narrow c) plan (suc (length plan)) (i - 1) before last
              (last_inside c (loaded c m n table plan S) plan S.known (i - 1) before old entries d after new last stepped)
              (last_start c (loaded c m n table plan S) plan S.known (i - 1) before old entries d after new last stepped U.some)
              b (subst (λ j. BestFrom (card_allows narrow c) plan j b) (sym whole) U.best) r (rw U.far at B);
        })

  -- ALL LETTERS.
  pub under_all : i ≤ 0 → Searched c plan b
  under_all h = record {
    answer = shortest_in b;
    is = refl;
    right = best_last (card_allows narrow c) plan b (subst (λ j. BestFrom (card_allows narrow c) plan j b) (omega arith) U.best);
  }
