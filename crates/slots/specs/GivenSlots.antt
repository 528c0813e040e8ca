-- The given machines in slots: the bytes that are written for one sign and for any number of signs, and that the slot then holds the given machine.
use Rattle.std.specs.Prelude.{◌≡◌, refl, Bool, false, cond, ◌⊎◌, ◌≢◌, List, ℕ, suc, ◌+◌, ◌*◌, ◌-◌, ◌≤◌, ◌<◌, length, get_or, drop, set, eqb, ltb}
use Rattle.std.proofs.Math.Path.{ap}
use Rattle.std.proofs.Common.{ap₂, ◌∙◌, subst, inl, inr, suc-mul, zero-mul, mul-le-mul_right, add-one, arith, length-drop, length-set, get_or-drop, get_or-set_same, get_or-set_other}
use Rattle.automata.specs.Basics.{LtCases, lt_cases, lt_ltb, ltb_false, SameCases, same_cases, nat_test}
use Rattle.automata.specs.Automaton.{Automaton}
use Rattle.automata.specs.Machine.{Machine, automaton}
use Rattle.automata.specs.Rows.{cell_below}
use Rattle.automata.specs.Table.{table_machine, flag_of, ClosedTable, table_size, table_accepting, table_step, table_formed}
use Rattle.automata.specs.Given.{one_sign, many_signs, given, letter_machine, dot_machine, empty_machine, all_machine}
use Rattle.automata.proofs.GivenTables.{one_written, many_written, cond_below}
use Rattle.rows.specs.Rows.{number_at, bit}
use Rattle.slots.specs.Slot.{flag_bit_lem, slot_machine, Holds, Written}

-- the columns from lo on and below hi
abbrev pub within : ℕ → ℕ → ℕ → Bool
within lo hi c = cond (ltb c lo) false (ltb c hi)

-- A slot with room for n states over k columns, the columns, the state that is accepting and the state that other columns lead to.
pub record Room (most k n lo hi good bad : ℕ) (s : List ℕ) : Type 0 where
  pub some : 1 ≤ n
  pub states : n ≤ most
  pub range : (lo ≤ hi) × (hi ≤ k)
  pub inside : (good < n) × (bad < n)
  pub long : 2 + (most + n * k) ≤ length s

-- n states, of which `good` is accepting; the columns within the bounds lead from state 0 to `good`, all else leads to `bad`.
pub record Signs (most k n lo hi good bad : ℕ) (s : List ℕ) : Type 0 where
  pub room : Room most k n lo hi good bad s
  pub count : number_at s 0 ≡ n
  pub flag : (p : ℕ) → p < n → get_or s (2 + p) 0 ≡ bit (eqb p good)
  pub cell : (i : ℕ) → i < n * k → get_or s (2 + (most + i)) 0 ≡ cond (within lo hi i) good bad

-- t is s with the number n in front and n flags behind it, of which that of `good` is set.
pub record Header (n good : ℕ) (s t : List ℕ) : Type 0 where
  pub long : length t ≡ length s
  pub count : number_at t 0 ≡ n
  pub flag : (p : ℕ) → p < n → get_or t (2 + p) 0 ≡ bit (eqb p good)

-- the columns end in the slot
pub room_columns : {most k n lo hi good bad : ℕ} {s : List ℕ} → Room most k n lo hi good bad s → 2 + (most + hi) ≤ length s
room_columns {most} {k} {n} {lo} {hi} {good} {bad} {s} R = omega (arith, R.long, R.range.1, mul-le-mul_right {m = 1} {n = n} k R.some, suc-mul 0 k, zero-mul k)

-- ---- what is written makes such a slot

pub header_written : (n good : ℕ) (s t : List ℕ) → good < n → 2 + n ≤ length s → Written (set (set s 0 n) 1 0) t 2 n (λ i. 0) → Header n good s (set t (2 + good) 1)
header_written n good s t h l w = record {
  long = length-set t (2 + good) 1 ∙ before;
  count = ap₂ (λ a b. a + 256 * b) (keep 0 (omega arith) ∙ first s (omega arith)) (keep 1 (omega arith) ∙ get_or-set_same (set s 0 n) 1 0 0 (omega (arith, length-set s 0 n))) ∙ done;
  flag = λ p b. flag p b (same_cases nat_test p good);
}
  where
    before : length t ≡ length s
    before = w.long ∙ length-set (set s 0 n) 1 0 ∙ length-set s 0 n

    done : n + 256 * 0 ≡ n
    done = omega arith

    first : (s : List ℕ) → 0 < length s → get_or (set (set s 0 n) 1 0) 0 0 ≡ n
    first s b = get_or-set_other (set s 0 n) 1 0 0 0 (λ e. omega arith) ∙ get_or-set_same s 0 n 0 b

    keep : (j : ℕ) → j < 2 → get_or (set t (2 + good) 1) j 0 ≡ get_or (set (set s 0 n) 1 0) j 0
    keep j b = get_or-set_other t (2 + good) j 1 0 (λ e. omega arith) ∙ w.there j (inl b)

    flag : (p : ℕ) → p < n → SameCases nat_test p good → get_or (set t (2 + good) 1) (2 + p) 0 ≡ bit (eqb p good)
    flag p b (inl q) = rw q.1 (ap (λ p. get_or (set t (2 + good) 1) (2 + p) 0) q.0 ∙ get_or-set_same t (2 + good) 1 0 (omega (arith, before)))
    flag p b (inr q) = let d : p ≢ good = q.0 in rw q.1 (get_or-set_other t (2 + good) (2 + p) 1 0 (λ e. d (omega arith)) ∙ w.here p b)

pub signs_written : (most k n lo hi good bad : ℕ) (s t u v : List ℕ) → Room most k n lo hi good bad s → Header n good s t → Written t u (2 + most) (n * k) (λ i. bad)
    → Written u v (2 + (most + lo)) (hi - lo) (λ i. good) → Signs most k n lo hi good bad v
signs_written most k n lo hi good bad s t u v R H W Y = record {
  count = ap₂ (λ a b. a + 256 * b) (early 0 (omega (arith, R.some, R.states))) (early 1 (omega (arith, R.some, R.states))) ∙ H.count;
  room = record { some = R.some; states = R.states; range = R.range; inside = R.inside; long = omega (arith, R.long, H.long, W.long, Y.long) };
  flag = λ p b. early (2 + p) (omega (arith, R.states)) ∙ H.flag p b;
  cell = λ i b. cell i b (lt_cases i lo) (lt_cases i hi);
}
  where
    early : (j : ℕ) → j < 2 + most → get_or v j 0 ≡ get_or t j 0
    early j b = Y.there j (inl (omega arith)) ∙ W.there j (inl b)

    bad_at : (i : ℕ) → i < n * k → get_or u (2 + (most + i)) 0 ≡ bad
    bad_at i b = let z : 2 + (most + i) ≡ 2 + most + i = omega arith in ap (λ j. get_or u j 0) z ∙ W.here i b

    cell : (i : ℕ) → i < n * k → LtCases i lo → LtCases i hi → get_or v (2 + (most + i)) 0 ≡ cond (within lo hi i) good bad
    cell i b (inl p) q = rw p.1 (Y.there (2 + (most + i)) (inl (omega arith)) ∙ bad_at i b)
    cell i b (inr p) (inr q) = rw (p.1, q.1) (Y.there (2 + (most + i)) (inr (omega (arith, R.range.0))) ∙ bad_at i b)
    cell i b (inr p) (inl q) =
        let z : 2 + (most + i) ≡ 2 + (most + lo) + (i - lo) = omega arith in
        rw (p.1, q.1) (ap (λ j. get_or v j 0) z ∙ Y.here (i - lo) (omega arith))

-- ---- the table of such a slot

module _ (most k n lo hi good bad : ℕ) (s : List ℕ) (S : Signs most k n lo hi good bad s) where
  R : Room most k n lo hi good bad s
  R = S.room

  abbrev t : List ℕ
  t = drop 2 s

  cell_at : (p c : ℕ) → p < n → c < k → get_or t (most + (p * k + c)) 0 ≡ cond (within lo hi (p * k + c)) good bad
  cell_at p c h b = get_or-drop 2 s (most + (p * k + c)) 0 ∙ S.cell (p * k + c) (cell_below n k p c h b)

  signs_closed : ClosedTable most n k t
  signs_closed = record {
    some = R.some;
    flags = R.states;
    long = omega (arith, S.room.long, length-drop 2 s);
    inside = λ p c h b. rw (cell_at p c h b) (cond_below (within lo hi (p * k + c)) good bad n R.inside.0 R.inside.1);
  }

  abbrev M : Machine
  M = table_machine most n k t

  signs_first : (c : ℕ) → 0 < n → c < k → (automaton M).step 0 c ≡ cond (within lo hi c) good bad
  signs_first c h b =
      let z : 0 * k + c ≡ c = omega (arith, zero-mul k) in
      table_step most n k t signs_closed 0 c h b ∙ cell_at 0 c h b ∙ ap (λ i. cond (within lo hi i) good bad) z

  -- the cells behind state 0's are past the bounds
  signs_later : (p c : ℕ) → 0 < p → p < n → c < k → (automaton M).step p c ≡ bad
  signs_later p c q h b =
      let z : 1 * k ≤ p * k = mul-le-mul_right {m = 1} {n = p} k q in
      table_step most n k t signs_closed p c h b ∙ cell_at p c h b
      ∙ past (p * k + c) (omega (arith, z, R.range.1, suc-mul 0 k, zero-mul k))
    where
      past : (i : ℕ) → hi ≤ i → cond (within lo hi i) good bad ≡ bad
      past i l = rw (ltb_false i lo (omega (arith, R.range.0)), ltb_false i hi l)

  signs_answers : (p : ℕ) → p < n → (automaton M).accepting p ≡ eqb p good
  signs_answers p h = table_accepting most n k t signs_closed p h ∙ ap flag_of (get_or-drop 2 s p 0 ∙ S.flag p h) ∙ flag_bit_lem (eqb p good)

  signs_holds : (N : Machine) → M ≡ N → Holds most k s N
  unfolding slot_machine
  signs_holds N e = record { slot = record { closed = rw S.count signs_closed }; machine = ap (λ n. table_machine most n k t) S.count ∙ e }

-- ---- one sign, any number of signs

-- the state behind the sign, by whether column 0 is the sign
pub behind_at : (lo hi b : ℕ) → lo < hi → ((lo ≡ 0) × (b ≡ 1)) ⊎ ((lo ≢ 0) × (b ≡ 2)) → (b ≡ cond (within lo hi 0) 1 2) × (3 - b ≡ cond (within lo hi 0) 2 1)
behind_at lo hi b h (inl (e, q)) = rw (e, lt_ltb 0 hi (omega arith), q) (refl, refl)
behind_at lo hi b h (inr (e, q)) = rw (lt_ltb 0 lo (omega (arith, e)), q) (refl, refl)

pub one_holds : (most k lo hi b : ℕ) (s : List ℕ) → lo < hi → ((lo ≡ 0) × (b ≡ 1)) ⊎ ((lo ≢ 0) × (b ≡ 2))
    → Signs most k 3 lo hi b (3 - b) s → Holds most k s (given k (one_sign (within lo hi)))
one_holds most k lo hi b s h e S =
    let (g, d) = behind_at lo hi b h e in
    signs_holds most k 3 lo hi b (3 - b) s S (given k (one_sign (within lo hi))) (one_written k (within lo hi) (table_machine most 3 k (drop 2 s)) (record {
      formed = table_formed most 3 k (drop 2 s) (signs_closed most k 3 lo hi b (3 - b) s S);
      states = table_size most 3 k (drop 2 s) (signs_closed most k 3 lo hi b (3 - b) s S);
      first = λ c v. signs_first most k 3 lo hi b (3 - b) s S c (omega arith) v ∙ (λ i. cond (within lo hi c) (g i) (d i));
      later = λ p c q l v. signs_later most k 3 lo hi b (3 - b) s S p c q l v ∙ d;
      answers = λ p l. signs_answers most k 3 lo hi b (3 - b) s S p l ∙ ap (eqb p) g;
    }) lo (omega (arith, S.room.range.1)) (rw (ltb_false lo lo (omega arith)) (lt_ltb lo hi h)))

pub many_holds : (most k hi : ℕ) (s : List ℕ) → hi < k → Signs most k 2 0 hi 0 1 s → Holds most k s (given k (many_signs (within 0 hi)))
many_holds most k hi s h S =
    signs_holds most k 2 0 hi 0 1 s S (given k (many_signs (within 0 hi))) (many_written k (within 0 hi) (table_machine most 2 k (drop 2 s)) (record {
      formed = table_formed most 2 k (drop 2 s) (signs_closed most k 2 0 hi 0 1 s S);
      states = table_size most 2 k (drop 2 s) (signs_closed most k 2 0 hi 0 1 s S);
      first = λ c v. signs_first most k 2 0 hi 0 1 s S c (omega arith) v;
      later = λ c v. signs_later most k 2 0 hi 0 1 s S 1 c (omega arith) (omega arith) v;
      answers = λ p l. signs_answers most k 2 0 hi 0 1 s S p l;
    }) hi h (rw (ltb_false hi 0 (omega arith)) (ltb_false hi hi (omega arith))))

-- ---- the columns of each given machine

within_one : (c x : ℕ) → within c (suc c) x ≡ eqb c x
within_one c x = go (lt_cases x c) (same_cases nat_test c x)
  where
    go : LtCases x c → SameCases nat_test c x → within c (suc c) x ≡ eqb c x
    go (inl p) (inl q) = absurd (omega arith)
    go (inl p) (inr q) = rw (p.1, q.1)
    go (inr p) (inl q) = rw (p.1, q.1, lt_ltb x (suc c) (omega arith))
    go (inr p) (inr q) = rw (p.1, q.1, ltb_false x (suc c) (omega (arith, q.0)))

within_zero : (m x : ℕ) → within 0 m x ≡ ltb x m
within_zero m x = rw (ltb_false x 0 (omega arith))

-- m + 1 columns, as code counts them
module _ (most m : ℕ) (s : List ℕ) where
  renamed : (A B : Automaton ℕ) → A ≡ B → Holds most (m + 1) s (given (m + 1) A) → Holds most (suc m) s (given (suc m) B)
  renamed A B e h = subst (λ A. Holds most (suc m) s (given (suc m) A)) e (rw (add-one m) at h)

  pub letter_holds : (c : ℕ) → Holds most (m + 1) s (given (m + 1) (one_sign (within c (c + 1)))) → Holds most (suc m) s (letter_machine m c)
  letter_holds c h = renamed (one_sign (within c (c + 1))) (one_sign (eqb c)) (ap one_sign (ap (within c) (add-one c) ∙ (λ i x. within_one c x i))) h

  pub dot_holds : Holds most (m + 1) s (given (m + 1) (one_sign (within 0 m))) → Holds most (suc m) s (dot_machine m)
  dot_holds h = renamed (one_sign (within 0 m)) (one_sign (λ c. ltb c m)) (ap one_sign (λ i x. within_zero m x i)) h

  pub empty_holds : Holds most (m + 1) s (given (m + 1) (many_signs (within 0 0))) → Holds most (suc m) s (empty_machine m)
  empty_holds h = renamed (many_signs (within 0 0)) (many_signs (λ c. false)) (ap many_signs (λ i x. (within_zero 0 x ∙ ltb_false x 0 (omega arith)) i)) h

  pub all_holds : Holds most (m + 1) s (given (m + 1) (many_signs (within 0 m))) → Holds most (suc m) s (all_machine m)
  all_holds h = renamed (many_signs (within 0 m)) (many_signs (λ c. ltb c m)) (ap many_signs (λ i x. within_zero m x i)) h
