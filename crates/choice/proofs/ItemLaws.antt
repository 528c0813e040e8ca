-- What an item and an atom come to, from what their parts came to.
use mathlib.Core.Path.{◌≡◌, refl, sym, ap, ◌∙◌}
use mathlib.Core.List.{List, ◌++◌}
use Prim.Native.Nat.{ℕ, ◌<◌, ◌≤◌}
use native.Mathlib.Omega.{arith}
use lib.ListN.{length, take, drop}
use Rattle.book.specs.Kind.{letter_kind, open_kind, close_kind}
use Rattle.book.specs.Reader.{Read, got, bad, closed, repeated}
use Rattle.book.specs.Text.{tokens}
use Rattle.lexer.specs.Token.{At, kind_ahead}
use Rattle.signs.specs.BufferLaws.{grown_more}
use Rattle.signs.specs.Spots.{left}
use Rattle.choice.specs.Reading.{a_choice, an_item, an_atom, Is, Reads}
use Rattle.choice.specs.ReadingLaws.{read_to, read_not}
use Rattle.signs.specs.Steps.{Put, Suffixed, complements, Item, Nots, Negated}
use Rattle.signs.specs.declared.Spot.{Spot}
use Rattle.lexer.specs.declared.Cursor.{Cursor}
use Rattle.std.specs.Prelude.{Option, None, Some}
use Rattle.lexer.proofs.TokenLaws.{at_fewer}
use Rattle.choice.proofs.ReadLaws.{stop, seq}
use Rattle.choice.proofs.KindLaws.{item_atom, atom_leaf, atom_bracket, atom_none, closed_not, closed_to}
use Rattle.signs.proofs.StepLaws.{same_left, negated_got, negated_bad}

-- an item of the definitions' reader, in the words of its signs and of the five
as_item : {ts : List ℕ} {X : Read} → Is an_item ts X → Item ts X
as_item i = record { run = i.run }

is_item : {ts : List ℕ} {X : Read} → Item ts X → Is an_item ts X
is_item i = record { run = i.run }

-- ---- an item: k `!`, an atom, the signs behind it, k codes of `!`

module _ {s o o₁ : List ℕ} {c : Spot} {n : Cursor} {k : ℕ} {a : Option Spot} (x : Nots s c.cursor.at n.at k) (d : Reads an_atom s o (record { cursor = n; pos = c.pos }) o₁ a) where
  pub item_refused : a ≡ None → Reads an_item s o c o₁ None
  item_refused q =
      let y = read_not d q in
      record {
        says = record {
          reads = is_item (rw negated_bad at (x.passed.goes bad (as_item (seq (λ f. repeated) y.reads (item_atom _ x.none) (omega arith) (λ f h. refl)))));
          before = y.before;
        };
      }

  pub item_done : {o₂ o' : List ℕ} {y m r : Spot} → a ≡ Some y → Suffixed s o₁ y o₂ m → Negated o₂ m k o' r → Reads an_item s o c o' (Some r)
  item_done {o₂} {o'} {y} {m} {r} q u v =
      let t = read_to d q in
      let z = u.goes (take c.pos o) t.expr t.code in
      let there : left s r ≡ left s m = same_left s m r v.at_is in
      record {
        says = record {
          expr = complements k z.expr;
          reads = is_item (rw (there, ← negated_got k) (x.passed.goes (got z.expr (left s m)) (as_item (seq (λ f. repeated) t.reads (item_atom _ x.none) (omega arith) (λ f h. z.reads)))));
          code = v.goes (take c.pos o) z.expr z.code_is;
          grown = grown_more t.grown (grown_more u.grown v.grown);
          fewer = omega (arith, ap length there, u.fewer, t.fewer, x.passed.fewer);
          falls = omega (arith, v.at_is, u.falls, t.falls, x.passed.falls);
          room = omega (arith, v.at_is, v.pos_is, u.room, t.room, x.passed.falls);
        };
      }

-- ---- an atom

pub atom_put : {s o o' : List ℕ} {c r : Spot} {k b : ℕ} {n : Cursor} → At s c.cursor.at k b n.at → letter_kind ≤ k → k < open_kind → Put o (record { cursor = n; pos = c.pos }) b o' r → Reads an_atom s o c o' (Some r)
atom_put {s} {o} {o'} {c} {r} {k} {b} {n} x h h' w =
    let y = atom_leaf x h h' in
    let there : left s r ≡ tokens (drop n.at s) = same_left s (record { cursor = n; pos = c.pos }) r w.at_is in
    record {
      says = record {
        expr = y.expr;
        reads = rw there (stop y.reads);
        code = w.code_is ∙ ap (λ (l : List ℕ). take c.pos o ++ l) (sym y.code);
        grown = w.grown;
        fewer = omega (arith, ap length there, at_fewer x);
        falls = omega (arith, w.at_is, x.falls);
        room = omega (arith, w.at_is, w.pos_is, x.falls);
      };
    }

pub atom_refused : {s o : List ℕ} {c : Spot} (k : ℕ) → k ≡ kind_ahead (left s c) → (letter_kind ≤ k → open_kind < k) → Reads an_atom s o c o None
atom_refused {s} {c = c} k q h = record { says = record { reads = stop (atom_none (left s c) k q h); before = refl } }

-- a choice in brackets
module _ {s o o' : List ℕ} {c : Spot} {k b : ℕ} {n : Cursor} {a : Option Spot} (x : At s c.cursor.at k b n.at) (e : k ≡ open_kind) (d : Reads a_choice s o (record { cursor = n; pos = c.pos }) o' a) where
  pub bracket_refused : a ≡ None → Reads an_atom s o c o' None
  bracket_refused q =
      let y = read_not d q in
      record { says = record { reads = seq (λ f. closed) y.reads (atom_bracket x e) (omega (arith, at_fewer x)) (λ f h. refl); before = y.before } }

  pub bracket_open : {y : Spot} (j : ℕ) → a ≡ Some y → j ≡ kind_ahead (left s y) → (j ≡ close_kind → ⊥) → Reads an_atom s o c o' None
  bracket_open {y} j q p h =
      let t = read_to d q in
      record {
        says = record {
          reads = seq (λ f. closed) t.reads (atom_bracket x e) (omega (arith, at_fewer x)) (λ f g. closed_not t.expr (left s y) j p h);
          before = t.grown.before;
        };
      }

  pub bracket_done : {y : Spot} {j b' : ℕ} {n' : Cursor} → a ≡ Some y → At s y.cursor.at j b' n'.at → j ≡ close_kind → Reads an_atom s o c o' (Some (record { cursor = n'; pos = y.pos }))
  bracket_done q z h =
      let t = read_to d q in
      record {
        says = record {
          expr = t.expr;
          reads = seq (λ f. closed) t.reads (atom_bracket x e) (omega (arith, at_fewer x)) (λ f g. closed_to t.expr z h);
          code = t.code;
          grown = t.grown;
          fewer = omega (arith, at_fewer x, at_fewer z, t.fewer);
          falls = omega (arith, x.falls, z.falls, t.falls);
          room = omega (arith, x.falls, z.falls, t.room);
        };
      }
