-- Cutting at a line end, where the next plan begins (`plans_rest`), and cutting piece by piece (`ended_append`, `begun_append`, `plans_pieces`).
use Rattle.std.specs.Prelude.{◌≡◌, refl, true, false, ◌⊎◌, ◌≢◌, List, [], ◌∷◌, ◌++◌, ℕ, zero, suc, ◌+◌, ◌-◌, ◌≤◌, ◌<◌, length, get_or, take, drop, eqb}
use Rattle.std.proofs.Common.{sym, ap, ◌∙◌, inl, inr, append_assoc, append-nil, arith, take-append-drop, length-append, length-take, length-drop, drop_of_length-le, drop-cons, drop-drop, get_or-drop, take-add, take-suc, ne_eqb}
use Rattle.std.proofs.Math.Seq.{drop-nil}
use Rattle.automata.specs.Booleans.{bool_cases}
use Rattle.plans.specs.Plans.{line_end, put_byte, plans_of, consumed, ended, begun, last_plan, line_of, LineEnd}

-- Bytes with no line end.
abbrev pub Free : List ℕ → Type 0
Free [] = Unit {0}
Free (b ∷ u) = (b ≢ line_end) × Free u

-- ---- cutting at a line end

pub plans_cut : (u t : List ℕ) → Free u → plans_of (u ++ (line_end ∷ t)) ≡ u ∷ plans_of t
plans_cut [] t f = refl
plans_cut (b ∷ u) t f = rw (ne_eqb b line_end f.0, plans_cut u t f.1)

pub plans_last : (u : List ℕ) → Free u → plans_of u ≡ last_plan u
plans_last [] f = refl
plans_last (b ∷ []) f = rw (ne_eqb b line_end f.0)
plans_last (b ∷ (b' ∷ u)) f = rw (ne_eqb b line_end f.0) (ap (put_byte b) (plans_last (b' ∷ u) f.1))

pub consumed_cut : (k : ℕ) (u t : List ℕ) → Free u → consumed (suc k) (u ++ (line_end ∷ t)) ≡ suc (length u + consumed k t)
consumed_cut k [] t f = let z : 0 + consumed k t ≡ consumed k t = omega arith in rw z
consumed_cut k (b ∷ u) t f = let z : suc (suc (length u + consumed k t)) ≡ suc (suc (length u) + consumed k t) = omega arith in
    rw (ne_eqb b line_end f.0) (ap suc (consumed_cut k u t f.1) ∙ z)

pub consumed_last : (k : ℕ) (u : List ℕ) → Free u → consumed (suc k) u ≡ length u
consumed_last k [] f = refl
consumed_last k (b ∷ u) f = rw (ne_eqb b line_end f.0) (ap suc (consumed_last k u f.1))

pub ended_cut : (u w t : List ℕ) → Free w → ended u (w ++ (line_end ∷ t)) ≡ (u ++ w) ∷ ended [] t
ended_cut u [] t f = ap (λ x. x ∷ ended [] t) (sym (append-nil u))
ended_cut u (b ∷ w) t f = rw (ne_eqb b line_end f.0) (ended_cut (u ++ (b ∷ [])) w t f.1 ∙ ap (λ x. x ∷ ended [] t) (append_assoc u (b ∷ []) w))

pub begun_cut : (u w t : List ℕ) → Free w → begun u (w ++ (line_end ∷ t)) ≡ begun [] t
begun_cut u [] t f = refl
begun_cut u (b ∷ w) t f = rw (ne_eqb b line_end f.0) (begun_cut (u ++ (b ∷ [])) w t f.1)

pub ended_free : (u w : List ℕ) → Free w → ended u w ≡ []
ended_free u [] f = refl
ended_free u (b ∷ w) f = rw (ne_eqb b line_end f.0) (ended_free (u ++ (b ∷ [])) w f.1)

pub begun_free : (u w : List ℕ) → Free w → begun u w ≡ u ++ w
begun_free u [] f = sym (append-nil u)
begun_free u (b ∷ w) f = rw (ne_eqb b line_end f.0) (begun_free (u ++ (b ∷ [])) w f.1 ∙ append_assoc u (b ∷ []) w)

-- ---- the next plan

pub consumed_next : (k : ℕ) (s : List ℕ) → consumed (suc k) s ≡ consumed k s + consumed 1 (drop (consumed k s) s)
consumed_next zero s = let z : consumed 1 s ≡ 0 + consumed 1 s = omega arith in z
consumed_next (suc k) [] = refl
consumed_next (suc k) (b ∷ bs) = go (bool_cases (eqb b line_end)) (consumed_next k bs) (consumed_next (suc k) bs)
  where
    add : (a x y : ℕ) → a ≡ x + y → suc a ≡ suc x + y
    add a x y e = omega arith

    go : (eqb b line_end ≡ true) ⊎ (eqb b line_end ≡ false) → consumed (suc k) bs ≡ consumed k bs + consumed 1 (drop (consumed k bs) bs)
        → consumed (suc (suc k)) bs ≡ consumed (suc k) bs + consumed 1 (drop (consumed (suc k) bs) bs)
        → consumed (suc (suc k)) (b ∷ bs) ≡ consumed (suc k) (b ∷ bs) + consumed 1 (drop (consumed (suc k) (b ∷ bs)) (b ∷ bs))
    go (inl e) x y = rw e (add (consumed (suc k) bs) (consumed k bs) (consumed 1 (drop (consumed k bs) bs)) x)
    go (inr e) x y = rw e (add (consumed (suc (suc k)) bs) (consumed (suc k) bs) (consumed 1 (drop (consumed (suc k) bs) bs)) y)

-- WHERE THE NEXT PLAN BEGINS: the bytes from there on are the other plans.
pub plans_rest : (k : ℕ) (s : List ℕ) → plans_of (drop (consumed k s) s) ≡ drop k (plans_of s)
plans_rest zero s = refl
plans_rest (suc k) [] = refl
plans_rest (suc k) (b ∷ bs) = go (bool_cases (eqb b line_end)) (plans_rest k bs) (plans_rest (suc k) bs)
  where
    put : (k : ℕ) (ps : List (List ℕ)) → drop (suc k) (put_byte b ps) ≡ drop (suc k) ps
    put k [] = drop-nil k
    put k (p ∷ ps) = refl

    go : (eqb b line_end ≡ true) ⊎ (eqb b line_end ≡ false) → plans_of (drop (consumed k bs) bs) ≡ drop k (plans_of bs)
        → plans_of (drop (consumed (suc k) bs) bs) ≡ drop (suc k) (plans_of bs) → plans_of (drop (consumed (suc k) (b ∷ bs)) (b ∷ bs)) ≡ drop (suc k) (plans_of (b ∷ bs))
    go (inl e) x y = rw e x
    go (inr e) x y = rw e (y ∙ sym (put k (plans_of bs)))

-- ---- piece by piece

-- BYTES IN PIECES are cut as the whole is.
pub ended_append : (u s t : List ℕ) → ended u (s ++ t) ≡ ended u s ++ ended (begun u s) t
ended_append u [] t = refl
ended_append u (b ∷ s) t = go (bool_cases (eqb b line_end)) (λ v. ended_append v s t)
  where
    go : (eqb b line_end ≡ true) ⊎ (eqb b line_end ≡ false) → ((v : List ℕ) → ended v (s ++ t) ≡ ended v s ++ ended (begun v s) t)
        → ended u ((b ∷ s) ++ t) ≡ ended u (b ∷ s) ++ ended (begun u (b ∷ s)) t
    go (inl e) x = rw e (ap (λ y. u ∷ y) (x []))
    go (inr e) x = rw e (x (u ++ (b ∷ [])))

pub begun_append : (u s t : List ℕ) → begun u (s ++ t) ≡ begun (begun u s) t
begun_append u [] t = refl
begun_append u (b ∷ s) t = go (bool_cases (eqb b line_end)) (λ v. begun_append v s t)
  where
    go : (eqb b line_end ≡ true) ⊎ (eqb b line_end ≡ false) → ((v : List ℕ) → begun v (s ++ t) ≡ begun (begun v s) t)
        → begun u ((b ∷ s) ++ t) ≡ begun (begun u (b ∷ s)) t
    go (inl e) x = rw e (x [])
    go (inr e) x = rw e (x (u ++ (b ∷ [])))

-- no more bytes than came
pub begun_few : (u s : List ℕ) → length (begun u s) ≤ length u + length s
begun_few u [] = omega arith
begun_few u (b ∷ s) = go (bool_cases (eqb b line_end)) (begun_few [] s) (begun_few (u ++ (b ∷ [])) s)
  where
    go : (eqb b line_end ≡ true) ⊎ (eqb b line_end ≡ false) → length (begun [] s) ≤ 0 + length s → length (begun (u ++ (b ∷ [])) s) ≤ length (u ++ (b ∷ [])) + length s
        → length (begun u (b ∷ s)) ≤ length u + suc (length s)
    go (inl e) x y = rw e (omega arith)
    go (inr e) x y = rw e (omega (arith, length-append u (b ∷ [])))

-- bytes in front of plans
abbrev put_bytes : List ℕ → List (List ℕ) → List (List ℕ)
put_bytes [] ps = ps
put_bytes (b ∷ u) ps = put_byte b (put_bytes u ps)

put_bytes_lem : (u : List ℕ) (b : ℕ) (ps : List (List ℕ)) → put_bytes (u ++ (b ∷ [])) ps ≡ put_bytes u (put_byte b ps)
put_bytes_lem [] b ps = refl
put_bytes_lem (x ∷ u) b ps = ap (put_byte x) (put_bytes_lem u b ps)

put_plan : (u p : List ℕ) (ps : List (List ℕ)) → put_bytes u (p ∷ ps) ≡ (u ++ p) ∷ ps
put_plan [] p ps = refl
put_plan (b ∷ u) p ps = ap (put_byte b) (put_plan u p ps)

put_last : (u : List ℕ) → put_bytes u [] ≡ last_plan u
put_last [] = refl
put_last (b ∷ []) = refl
put_last (b ∷ (b' ∷ u)) = ap (put_byte b) (put_last (b' ∷ u))

pieces : (u s : List ℕ) → put_bytes u (plans_of s) ≡ ended u s ++ last_plan (begun u s)
pieces u [] = put_last u
pieces u (b ∷ s) = go (bool_cases (eqb b line_end)) (λ v. pieces v s)
  where
    go : (eqb b line_end ≡ true) ⊎ (eqb b line_end ≡ false) → ((v : List ℕ) → put_bytes v (plans_of s) ≡ ended v s ++ last_plan (begun v s))
        → put_bytes u (plans_of (b ∷ s)) ≡ ended u (b ∷ s) ++ last_plan (begun u (b ∷ s))
    go (inl e) x = rw e (put_plan u [] (plans_of s) ∙ (λ i. append-nil u i ∷ x [] i))
    go (inr e) x = rw e (sym (put_bytes_lem u b (plans_of s)) ∙ x (u ++ (b ∷ [])))

-- THE PLANS are those that ended and, where bytes came after the last line end, one more.
pub plans_pieces : (s : List ℕ) → plans_of s ≡ ended [] s ++ last_plan (begun [] s)
plans_pieces s = pieces [] s

-- ---- a line in lent bytes

free_take : (k : ℕ) (l : List ℕ) → ((j : ℕ) → j < k → j < length l → get_or l j 0 ≢ line_end) → Free (take k l)
free_take zero l f = tt
free_take (suc k) [] f = tt
free_take (suc k) (x ∷ l) f = (f 0 (omega arith) (omega arith), free_take k l (λ j h b. f (suc j) (omega arith) (omega arith)))

module _ (s : List ℕ) (from e : ℕ) (l : LineEnd s from e) where
  abbrev line : List ℕ
  line = line_of s from e

  pub line_free : Free line
  line_free = free_take (e - from) (drop from s) λ j h b.
      let z : get_or (drop from s) j 0 ≡ get_or s (from + j) 0 = get_or-drop from s j 0 in
      λ x. l.before (from + j) (omega arith) (omega (arith, l.low)) (sym z ∙ x)

  pub line_length : length line ≡ e - from
  line_length = omega (arith, length-take (e - from) (drop from s), length-drop from s, l.most)

  pub line_split : drop from s ≡ line ++ drop e s
  line_split = let z : from + (e - from) ≡ e = omega (arith, l.low) in
      sym (take-append-drop (e - from) (drop from s)) ∙ ap (λ x. line ++ x) (drop-drop (e - from) from s ∙ ap (λ x. drop x s) z)

  -- the line ends in the bytes
  pub line_cut : e < length s → drop from s ≡ line ++ (line_end ∷ drop (suc e) s)
  line_cut h = line_split ∙ ap (λ x. line ++ x) (drop-cons s e 0 h ∙ ap (λ x. x ∷ drop (suc e) s) (l.end h))

  -- or it is the last
  pub line_last : length s ≤ e → drop from s ≡ line
  line_last h = line_split ∙ ap (λ x. line ++ x) (drop_of_length-le s {i = e} h) ∙ append-nil line

  -- THE NEXT PLAN is the line.
  pub plans_line : e < length s → plans_of (drop from s) ≡ line ∷ plans_of (drop (suc e) s)
  plans_line h = ap plans_of (line_cut h) ∙ plans_cut line (drop (suc e) s) line_free

  pub plans_end : from < length s → length s ≤ e → plans_of (drop from s) ≡ line ∷ plans_of (drop e s)
  plans_end b h = ap plans_of (line_last h) ∙ plans_last line line_free ∙ some line (omega (arith, line_length)) ∙ ap (λ x. line ∷ plans_of x) (sym (drop_of_length-le s {i = e} h))
    where
      some : (u : List ℕ) → 0 < length u → last_plan u ≡ u ∷ []
      some [] x = absurd (omega arith)
      some (b ∷ u) x = refl

  pub consumed_line : e < length s → consumed 1 (drop from s) ≡ suc e - from
  consumed_line h = ap (consumed 1) (line_cut h) ∙ consumed_cut 0 line (drop (suc e) s) line_free ∙ omega (arith, line_length, l.low)

  pub consumed_end : length s ≤ e → consumed 1 (drop from s) ≡ e - from
  consumed_end h = ap (consumed 1) (line_last h) ∙ consumed_last 0 line line_free ∙ line_length

  -- ---- and in bytes that come in pieces, where of a plan u has come

  take_last : take e s ≡ take from s ++ line
  take_last = let z : e ≡ from + (e - from) = omega (arith, l.low) in ap (λ x. take x s) z ∙ take-add from (e - from) s

  take_line : e < length s → take (suc e) s ≡ take from s ++ (line ++ (line_end ∷ []))
  take_line h = take-suc s e 0 h ∙ (λ i. take_last i ++ (l.end h i ∷ [])) ∙ append_assoc (take from s) line (line_end ∷ [])

  module _ (u : List ℕ) where
    -- A LINE END ends the plan.
    pub ended_line : e < length s → ended u (take (suc e) s) ≡ ended u (take from s) ++ ((begun u (take from s) ++ line) ∷ [])
    ended_line h = ap (ended u) (take_line h) ∙ ended_append u (take from s) (line ++ (line_end ∷ []))
        ∙ ap (λ x. ended u (take from s) ++ x) (ended_cut (begun u (take from s)) line [] line_free)

    pub begun_line : e < length s → begun u (take (suc e) s) ≡ []
    begun_line h = ap (begun u) (take_line h) ∙ begun_append u (take from s) (line ++ (line_end ∷ [])) ∙ begun_cut (begun u (take from s)) line [] line_free

    -- BYTES BEFORE A LINE END go on with it.
    pub ended_last : ended u (take e s) ≡ ended u (take from s)
    ended_last = ap (ended u) take_last ∙ ended_append u (take from s) line
        ∙ ap (λ x. ended u (take from s) ++ x) (ended_free (begun u (take from s)) line line_free) ∙ append-nil (ended u (take from s))

    pub begun_last : begun u (take e s) ≡ begun u (take from s) ++ line
    begun_last = ap (begun u) take_last ∙ begun_append u (take from s) line ∙ begun_free (begun u (take from s)) line line_free
