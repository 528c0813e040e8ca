-- The chains of rows with the same hash.
use mathlib.Core.Path.{◌≡◌, sym, ap, ◌∙◌}
use mathlib.Core.Logic.{inl, inr}
use mathlib.Core.List.{List}
use Prim.Native.Nat.{ℕ, ◌+◌, ◌≤◌, ◌<◌}
use native.Mathlib.Omega.{arith}
use lib.ListN.{length, get_or, set, replicate, get_or-replicate}
use lib.Seq.{get_or-set_same, get_or-set_other}
use Rattle.automata.specs.Basics.{LtCases, lt_cases, SameCases, same_cases, nat_test}
use Rattle.rows.specs.Chains.{Last, Chained, Appended}
use Rattle.rows.specs.Rows.{row_at}
use Rattle.rows.specs.Sums.{row_hash}

-- ---- chains

abbrev hashes : ℕ → List ℕ → ℕ → ℕ
hashes w rows i = row_hash (row_at w i rows)

-- the same numbers below n
last_same : {f g : ℕ → ℕ} {n b x : ℕ} → ((i : ℕ) → i < n → f i ≡ g i) → Last f n b x → Last g n b x
last_same e L = record {
  within = L.within;
  is = λ i z. sym (e i (omega (arith, L.within))) ∙ L.is i z;
  none = λ i a h z. L.none i a h (e i h ∙ z);
}

-- one place more, with another number
last_more : {f : ℕ → ℕ} {n b x : ℕ} → (f n ≡ b → ⊥) → Last f n b x → Last f (n + 1) b x
last_more {f} {n} {b} {x} o L = record { within = omega (arith, L.within); is = L.is; none = λ i a h z. go i a h z (lt_cases i n) }
  where
    go : (i : ℕ) → x ≤ i → i < n + 1 → f i ≡ b → LtCases i n → ⊥
    go i a h z (inl y) = L.none i a y.0 z
    go i a h z (inr y) = let e : i ≡ n = omega arith in o (ap f (sym e) ∙ z)

-- the last place has the number
last_here : {f : ℕ → ℕ} {b : ℕ} (n : ℕ) → f n ≡ b → Last f (n + 1) b (n + 1)
last_here {f} {b} n e = record {
  within = omega arith;
  is = λ i z. let y : i ≡ n = omega arith in ap f y ∙ e;
  none = λ i a h z. omega arith;
}

-- no place is below 0
last_none : {f : ℕ → ℕ} {b x : ℕ} → x ≡ 0 → Last f 0 b x
last_none e = record { within = omega arith; is = λ i z. absurd (omega arith); none = λ i a h z. omega arith }

-- before the first row all heads are 0
pub chained_none : (w : ℕ) (rows links : List ℕ) → Chained w 0 rows links (replicate 512 0)
chained_none w rows links = record { head = λ b h. last_none (get_or-replicate 512 b 0 0 h); link = λ j h. absurd (omega arith) }

-- the row that is put behind the others becomes the last of its chain
pub chained_more : (w count h : ℕ) (rows row rows' links heads : List ℕ) → Chained w count rows links heads → Appended w count rows row rows' → h ≡ row_hash row → h < 512
    → count < length links → length heads ≡ 512 → Chained w (count + 1) rows' (set links count (get_or heads h 0)) (set heads h (count + 1))
chained_more w count h rows row rows' links heads C A e b l m = record { head = λ x y. head x y (same_cases nat_test x h); link = λ j y. link j y (lt_cases j count) }
  where
    old : (i : ℕ) → i < count → hashes w rows i ≡ hashes w rows' i
    old i y = ap row_hash (sym (A.before i y))

    here : hashes w rows' count ≡ h
    here = ap row_hash A.here ∙ sym e

    head : (x : ℕ) → x < 512 → SameCases nat_test x h → Last (hashes w rows') (count + 1) x (get_or (set heads h (count + 1)) x 0)
    head x y (inl p) = rw (p.0, get_or-set_same heads h (count + 1) 0 (omega arith)) (last_here count here)
    head x y (inr p) = rw (get_or-set_other heads h x (count + 1) 0 p.0) (last_more (λ z. p.0 (sym z ∙ here)) (last_same old (C.head x y)))

    link : (j : ℕ) → j < count + 1 → LtCases j count → Last (hashes w rows') j (hashes w rows' j) (get_or (set links count (get_or heads h 0)) j 0)
    link j y (inl p) =
        rw (get_or-set_other links count j (get_or heads h 0) 0 (λ z. let q = p.0 in omega arith), sym (old j p.0))
        (last_same (λ i z. old i (let q = p.0 in omega arith)) (C.link j p.0))
    link j y (inr p) =
        let z : j ≡ count = omega arith in
        rw (z, get_or-set_same links count (get_or heads h 0) 0 l, here) (last_same old (C.head h b))

-- what is stored behind the rows' links changes no chain
pub chained_store : (w count x v : ℕ) (rows links heads : List ℕ) → count ≤ x → Chained w count rows links heads → Chained w count rows (set links x v) heads
chained_store w count x v rows links heads h C = record {
  head = C.head;
  link = λ j y. rw (get_or-set_other links x j v 0 (λ z. omega arith)) (C.link j y);
}

-- ---- along a chain

-- from `next` on no row is the one looked for; the row before it has its hash
pub record Seeking (w count next : ℕ) (rows row : List ℕ) : Type 0 where
  pub within : next ≤ count
  pub is : (i : ℕ) → i + 1 ≡ next → row_hash (row_at w i rows) ≡ row_hash row
  pub none : (i : ℕ) → next ≤ i → i < count → row_at w i rows ≡ row → ⊥
