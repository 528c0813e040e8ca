-- Laws of what specs/StackLaws.antt defines.
use Rattle.std.specs.Prelude.{ℕ, suc, ◌+◌, ◌*◌, ◌-◌, ◌≤◌, max, ◌≡◌, refl, Bool, true, false, ◌&&◌, ◌||◌, List, [], ◌∷◌, ◌++◌, eqb, leb, ltb}
use Rattle.std.proofs.Common.{ap, sym, ◌∙◌, subst, true≢false, inl, inr, append_assoc, append-nil, arith}
use Rattle.std.proofs.lemmas.Bool.{false≢true}
use Rattle.automata.specs.Booleans.{choose}
use Rattle.automata.specs.Basics.{LtCases, lt_cases, SameCases, same_cases, nat_test}
use Rattle.automata.specs.Stages.{Pairing, either, both, without}
use Rattle.language.specs.Restriction.{RuleKind, restricts, forbids, obliges, Some, Enough}
use Rattle.language.specs.Evaluate.{pattern_of}
use Rattle.language.specs.Expression.{Expr, star, plus, pair, empty, join, option, complement, letter, name, dot}
use Rattle.book.specs.Kind.{kind_of, letter_kind, at_kind, open_kind, bang_kind, plus_kind, question_kind, close_kind, space_kind, underscore_kind, name_kind, dot_kind}
use Rattle.book.specs.Reader.{got, read_choice}
use Rattle.book.specs.Grammar.{Choice, one_blend, or, Blend, one_chain, and, minus, Chain, one_item, follow, Item, negated, followed, Followed, one_atom, by_star, by_plus, by_option, Atom, a_letter, a_name, a_dot, an_at, bracket}
use Rattle.book.proofs.Grammar.{reader_sound}
use Rattle.book.specs.Text.{Line, too_deep, count_of, line_test, tokens, Form, define, rule, malformed, form_of}
use Rattle.book.specs.LineGrammar.{Contexts, none, more, rule_sign, LineForm, definition, ruling, squeezed}
use Rattle.book.proofs.LineGrammar.{define_exact, rule_exact}
use Rattle.book.specs.Program.{meet_code, dot_code, join_code, empty_code, pair_code, postfix, program, union_program, set_program, contexts_program, pattern_program, context_program}
use Rattle.book.specs.StackLaws.{AllHeld, FormHeld, Held, Leaves, besides, deepest, height_after, highest, nesting}

-- ---- the bound, from the grammar

-- a byte that is no bracket
nesting_other : (b : ℕ) (bs : List ℕ) (o c : ℕ) → eqb (kind_of b) open_kind ≡ false → eqb (kind_of b) close_kind ≡ false → nesting o c (b ∷ bs) ≡ nesting o c bs
nesting_other b bs o c e f = rw (e, f)

-- a byte of another kind
nesting_kind : (b k : ℕ) (bs : List ℕ) (o c : ℕ) → eqb k open_kind ≡ false → eqb k close_kind ≡ false → eqb (kind_of b) k ≡ true → nesting o c (b ∷ bs) ≡ nesting o c bs
nesting_kind b k bs o c e f q = let z : kind_of b ≡ k = nat_test.sound (kind_of b) k q in nesting_other b bs o c (rw z e) (rw z f)

module _ (extra d : ℕ) where
  -- A part read at depth k, with the count behind it: as many brackets are closed in it as opened.
  record Bound (level k : ℕ) (e : Expr) (rest : List ℕ) : Type 0 where
    height : deepest extra e ≤ 3 * (d - k) + level + extra
    leaves : Leaves e
    opens : ℕ
    closes : ℕ
    count : opens ≡ closes + k
    later : nesting opens closes rest ≤ d

  lift : (level level' k : ℕ) (e : Expr) (rest : List ℕ) → level ≤ level' → Bound level k e rest → Bound level' k e rest
  lift level level' k e rest h B = record { height = omega arith; leaves = B.leaves; opens = B.opens; closes = B.closes; count = B.count; later = B.later }

  leaf : (level k : ℕ) (e : Expr) (rest : List ℕ) (o c : ℕ) → 1 ≤ level → deepest extra e ≡ 1 → Leaves e → o ≡ c + k → nesting o c rest ≤ d → Bound level k e rest
  leaf level k e rest o c l q s z h = record { height = omega arith; leaves = s; opens = o; closes = c; count = z; later = h }

  mutual
    choice_bound : {ts : List ℕ} {e : Expr} → Choice ts e → (rest : List ℕ) (k o c : ℕ) → o ≡ c + k → nesting o c (ts ++ rest) ≤ d → Bound 4 k e rest
    choice_bound (one_blend {e = e} b) rest k o c q h = lift 3 4 k e rest (omega arith) (blend_bound b rest k o c q h)
    choice_bound (or {us = us} p b z) rest k o c q h =
        let A = choice_bound p (124 ∷ (us ++ rest)) k o c q (rw (z, append_assoc) at h) in
        let B = blend_bound b rest k A.opens A.closes A.count A.later in
        record { height = omega (arith, A.height, B.height); leaves = (A.leaves, B.leaves); opens = B.opens; closes = B.closes; count = B.count; later = B.later }

    blend_bound : {ts : List ℕ} {e : Expr} → Blend ts e → (rest : List ℕ) (k o c : ℕ) → o ≡ c + k → nesting o c (ts ++ rest) ≤ d → Bound 3 k e rest
    blend_bound (one_chain {e = e} b) rest k o c q h = lift 2 3 k e rest (omega arith) (chain_bound b rest k o c q h)
    blend_bound (and {us = us} p b z) rest k o c q h =
        let A = blend_bound p (38 ∷ (us ++ rest)) k o c q (rw (z, append_assoc) at h) in
        let B = chain_bound b rest k A.opens A.closes A.count A.later in
        record { height = omega (arith, A.height, B.height); leaves = (A.leaves, B.leaves); opens = B.opens; closes = B.closes; count = B.count; later = B.later }
    blend_bound (minus {us = us} p b z) rest k o c q h =
        let A = blend_bound p (45 ∷ (us ++ rest)) k o c q (rw (z, append_assoc) at h) in
        let B = chain_bound b rest k A.opens A.closes A.count A.later in
        record { height = omega (arith, A.height, B.height); leaves = (A.leaves, B.leaves); opens = B.opens; closes = B.closes; count = B.count; later = B.later }

    chain_bound : {ts : List ℕ} {e : Expr} → Chain ts e → (rest : List ℕ) (k o c : ℕ) → o ≡ c + k → nesting o c (ts ++ rest) ≤ d → Bound 2 k e rest
    chain_bound (one_item {e = e} b) rest k o c q h = lift 1 2 k e rest (omega arith) (item_bound b rest k o c q h)
    chain_bound (follow {us = us} p b z) rest k o c q h =
        let A = chain_bound p (us ++ rest) k o c q (rw (z, append_assoc) at h) in
        let B = item_bound b rest k A.opens A.closes A.count A.later in
        record { height = omega (arith, A.height, B.height); leaves = (A.leaves, B.leaves); opens = B.opens; closes = B.closes; count = B.count; later = B.later }

    item_bound : {ts : List ℕ} {e : Expr} → Item ts e → (rest : List ℕ) (k o c : ℕ) → o ≡ c + k → nesting o c (ts ++ rest) ≤ d → Bound 1 k e rest
    item_bound (negated i z) rest k o c q h =
        let A = item_bound i rest k o c q (rw z at h) in
        record { height = omega (arith, A.height); leaves = A.leaves; opens = A.opens; closes = A.closes; count = A.count; later = A.later }
    item_bound (followed f) rest k o c q h = followed_bound f rest k o c q h

    followed_bound : {ts : List ℕ} {e : Expr} → Followed ts e → (rest : List ℕ) (k o c : ℕ) → o ≡ c + k → nesting o c (ts ++ rest) ≤ d → Bound 1 k e rest
    followed_bound (one_atom a) rest k o c q h = atom_bound a rest k o c q h
    followed_bound (by_star f z) rest k o c q h =
        let A = followed_bound f (42 ∷ rest) k o c q (rw (z, append_assoc) at h) in
        record { height = A.height; leaves = A.leaves; opens = A.opens; closes = A.closes; count = A.count; later = A.later }
    followed_bound (by_plus f z) rest k o c q h =
        let A = followed_bound f (43 ∷ rest) k o c q (rw (z, append_assoc) at h) in
        record { height = omega (arith, A.height); leaves = A.leaves; opens = A.opens; closes = A.closes; count = A.count; later = A.later }
    followed_bound (by_option f z) rest k o c q h =
        let A = followed_bound f (63 ∷ rest) k o c q (rw (z, append_assoc) at h) in
        record { height = omega (arith, A.height); leaves = A.leaves; opens = A.opens; closes = A.closes; count = A.count; later = A.later }

    atom_bound : {ts : List ℕ} {e : Expr} → Atom ts e → (rest : List ℕ) (k o c : ℕ) → o ≡ c + k → nesting o c (ts ++ rest) ≤ d → Bound 1 k e rest
    atom_bound (a_letter b s z) rest k o c q h = leaf 1 k (letter b) rest o c (omega arith) refl s q (rw (nesting_kind b 1 rest o c refl refl s) at (rw z at h))
    atom_bound (a_name b s z) rest k o c q h = leaf 1 k (name b) rest o c (omega arith) refl s q (rw (nesting_kind b 2 rest o c refl refl s) at (rw z at h))
    atom_bound (a_dot z) rest k o c q h = leaf 1 k dot rest o c (omega arith) refl tt q (rw z at h)
    atom_bound (an_at z) rest k o c q h = leaf 1 k empty rest o c (omega arith) refl tt q (rw z at h)
    atom_bound (bracket {ts = ts} p z) rest k o c q h =
        let g : max (suc o - c) (nesting (suc o) c (ts ++ (41 ∷ rest))) ≤ d = subst (λ l. nesting o c (40 ∷ l) ≤ d) (append_assoc ts (41 ∷ []) rest) (rw z at h) in
        let A = choice_bound p (41 ∷ rest) (suc k) (suc o) c (omega arith) (omega arith) in
        record { height = omega (arith, A.height); leaves = A.leaves; opens = A.opens; closes = suc A.closes; count = omega (arith, A.count); later = A.later }

-- THE STACK. A choice whose brackets nest at most d deep holds at most 3d + 4 machines, and one more where `A*` beside A is counted.
pub choice_height : (extra d : ℕ) (ts : List ℕ) (e : Expr) → Choice ts e → nesting 0 0 ts ≤ d → deepest extra e ≤ 3 * d + 4 + extra
choice_height extra d ts e c h = omega (arith, (choice_bound extra d c [] 0 0 0 refl (subst (λ l. nesting 0 0 l ≤ d) (sym (append-nil ts)) h)).height)

-- The same of what the reader reads: bytes behind the choice nest as they like, up to d.
pub read_height : (extra d : ℕ) (ts us : List ℕ) (e : Expr) → read_choice ts ≡ got e us → nesting 0 0 ts ≤ d → deepest extra e ≤ 3 * d + 4 + extra
read_height extra d ts us e q h =
    let (mid, z, c) = reader_sound ts us e q in
    omega (arith, (choice_bound extra d c us 0 0 0 refl (rw z at h)).height)

-- ---- lines

-- test 3 passed
nesting_passed : (bs : List ℕ) (o c : ℕ) → too_deep o c bs ≡ false → nesting o c bs ≤ 4
nesting_passed [] o c e = omega arith
nesting_passed (b ∷ bs) o c e = go (eqb (kind_of b) open_kind) (eqb (kind_of b) close_kind) (lt_cases (c + 4) (suc o)) e (nesting_passed bs (suc o) c) (nesting_passed bs o (suc c)) (nesting_passed bs o c)
  where
    go : (s t : Bool) → LtCases (c + 4) (suc o)
        → choose s (λ _. choose (ltb (c + 4) (suc o)) (λ _. true) (λ _. too_deep (suc o) c bs)) (λ _. choose t (λ _. too_deep o (suc c) bs) (λ _. too_deep o c bs)) ≡ false
        → (too_deep (suc o) c bs ≡ false → nesting (suc o) c bs ≤ 4) → (too_deep o (suc c) bs ≡ false → nesting o (suc c) bs ≤ 4) → (too_deep o c bs ≡ false → nesting o c bs ≤ 4)
        → choose s (λ _. max (suc o - c) (nesting (suc o) c bs)) (λ _. choose t (λ _. nesting o (suc c) bs) (λ _. nesting o c bs)) ≤ 4
    go true t (inl p) e f g h = absurd (true≢false (rw p.1 at e))
    go true t (inr p) e f g h = omega (arith, f (rw p.1 at e))
    go false true w e f g h = g e
    go false false w e f g h = h e

-- spaces are no brackets
nesting_tokens : (bs : List ℕ) (o c : ℕ) → nesting o c (tokens bs) ≡ nesting o c bs
nesting_tokens [] o c = refl
nesting_tokens (b ∷ bs) o c = go (same_cases nat_test (kind_of b) space_kind) (λ o c. nesting_tokens bs o c)
  where
    go : SameCases nat_test (kind_of b) space_kind → ((o c : ℕ) → nesting o c (tokens bs) ≡ nesting o c bs) → nesting o c (tokens (b ∷ bs)) ≡ nesting o c (b ∷ bs)
    go (inl p) f = rw p.1 (f o c ∙ sym (nesting_kind b space_kind bs o c refl refl p.1))
    go (inr p) f = rw p.1 (λ i. choose (eqb (kind_of b) open_kind) (λ _. max (suc o - c) (f (suc o) c i)) (λ _. choose (eqb (kind_of b) close_kind) (λ _. f o (suc c) i) (λ _. f o c i)))

nesting_squeezed : (bs : List ℕ) (o c : ℕ) → nesting o c (squeezed bs) ≡ nesting o c bs
nesting_squeezed [] o c = refl
nesting_squeezed (b ∷ bs) o c = λ i. choose (eqb (kind_of b) open_kind) (λ _. max (suc o - c) (nesting_tokens bs (suc o) c i)) (λ _. choose (eqb (kind_of b) close_kind) (λ _. nesting_tokens bs o (suc c) i) (λ _. nesting_tokens bs o c i))

held : (e : Expr) (rest : List ℕ) → Bound 1 4 4 0 e rest → Held 17 e
held e rest B = record { height = omega (arith, B.height); leaves = B.leaves }

contexts_held : (ts : List ℕ) (cs : List (Expr × Expr)) → Contexts ts cs → (o c : ℕ) → o ≡ c + 0 → nesting o c ts ≤ 4 → AllHeld 17 cs
contexts_held ts cs (none z) o c q h = tt
contexts_held ts cs (more {us = us} {vs = vs} {l = l} {r = r} {cs = ds} a b k z) o c q h =
    let A = choice_bound 1 4 a (95 ∷ (us ++ vs)) 0 o c q (rw z at h) in
    let B = choice_bound 1 4 b vs 0 A.opens A.closes A.count A.later in
    (held l (95 ∷ (us ++ vs)) A, held r vs B, contexts_held vs ds k B.opens B.closes B.count B.later)

form_held : (all : List ℕ) (F : Form) → LineForm all F → nesting 0 0 all ≤ 4 → FormHeld 17 F
form_held all F (definition {ts = ts} {x = x} {e = e} n c z) h =
    let g : nesting 0 0 ts ≤ 4 = rw (nesting_kind x name_kind ts 0 0 refl refl n) at (rw z at h) in
    held e [] (choice_bound 1 4 c [] 0 0 0 refl (subst (λ l. nesting 0 0 l ≤ 4) (sym (append-nil ts)) g))
form_held all F (ruling {ts = ts} {us = us} {kind = kind} {p = p} {cs = cs} c k x z) h =
    let A = choice_bound 1 4 c us 0 0 0 refl (subst (λ n. n ≤ 4) (sign kind) (rw z at h)) in
    (pattern_held kind p us A, contexts_held us cs k A.opens A.closes A.count A.later, x)
  where
    sign : (kind : RuleKind) → nesting 0 0 (rule_sign kind ∷ (ts ++ us)) ≡ nesting 0 0 (ts ++ us)
    sign restricts = refl
    sign forbids = refl
    sign obliges = refl

    pattern_held : (kind : RuleKind) (p : Expr) (rest : List ℕ) → Bound 1 4 4 0 p rest → Held 17 (pattern_of kind p)
    pattern_held restricts p rest B = held p rest B
    pattern_held forbids p rest B = held p rest B
    pattern_held obliges p rest B = record { height = omega (arith, B.height); leaves = B.leaves }

-- Each expression of a line that passes test 3 holds at most 17 machines.
pub deep_held : (bs : List ℕ) → too_deep 0 0 bs ≡ false → FormHeld 17 (form_of bs)
deep_held bs e = go (form_of bs) refl
  where
    h : nesting 0 0 (squeezed bs) ≤ 4
    h = rw nesting_squeezed (nesting_passed bs 0 0 e)

    go : (F : Form) → form_of bs ≡ F → FormHeld 17 F
    go (define x f) q = form_held (squeezed bs) (define x f) ((define_exact bs x f).0 q) h
    go (rule kind p cs) q = form_held (squeezed bs) (rule kind p cs) ((rule_exact bs kind p cs).0 q) h
    go malformed q = tt

pub line_held : (l : Line) → line_test l ≡ 0 → FormHeld 17 (form_of l.bytes)
unfolding line_test
line_held l e = deep_held l.bytes (go (too_deep 0 0 l.bytes) e)
  where
    go : (t : Bool) → ◌≡◌ {A = ℕ} (choose t (λ _. 3) (λ _. choose (ltb 4 (count_of underscore_kind l.bytes)) (λ _. 4) (λ _. choose l.ended (λ _. 0) (λ _. 5)))) 0 → t ≡ false
    go true q = absurd (omega arith)
    go false q = refl

-- ---- programs

highest_from : (cs : List ℕ) (h : ℕ) → h ≤ highest h cs
highest_from [] h = omega arith
highest_from (c ∷ cs) h = go (besides c)
  where
    go : (t : Bool) → h ≤ max (choose t (λ _. suc h) (λ _. h)) (highest (height_after c h) cs)
    go true = omega arith
    go false = omega arith

some : (e : Expr) → 1 ≤ deepest 1 e
some (letter b) = omega arith
some (name b) = omega arith
some dot = omega arith
some empty = omega arith
some (pair o e f) = omega (arith, some e)
some (join e f) = omega (arith, some e)
some (star e) = some e
some (plus e) = omega arith
some (option e) = omega arith
some (complement e) = omega arith

-- a byte that pushes is not the code that meets the book
not_meet : (b k : ℕ) → leb letter_kind k && leb k at_kind ≡ true → kind_of b ≡ k → eqb b meet_code ≡ false
not_meet b k p z = go (same_cases nat_test b meet_code)
  where
    go : SameCases nat_test b meet_code → eqb b meet_code ≡ false
    go (inl q) = absurd (false≢true (subst (λ k. leb letter_kind k && leb k at_kind ≡ true) (sym z ∙ ap kind_of q.0) p))
    go (inr q) = q.1

highest_leaf : (b k h : ℕ) (cs : List ℕ) → leb letter_kind k && leb k at_kind ≡ true → (leb plus_kind k && leb k question_kind) || (eqb k bang_kind || false) ≡ false → eqb (kind_of b) k ≡ true
    → highest h (b ∷ cs) ≡ max (h + 1) (highest (suc h) cs)
highest_leaf b k h cs p n q =
    let z : kind_of b ≡ k = nat_test.sound (kind_of b) k q in
    rw (not_meet b k p z, z, p, n) (omega (arith, highest_from cs (suc h)))

popped : (h : ℕ) (cs : List ℕ) → max (suc (suc h)) (highest (suc (suc h) - 1) cs) ≡ max (suc (suc h)) (highest (suc h) cs)
popped h cs = let z : suc (suc h) - 1 ≡ suc h = omega arith in rw z

highest_pair : (o : Pairing) (h : ℕ) (cs : List ℕ) → highest (suc (suc h)) (pair_code o ∷ cs) ≡ max (suc (suc h)) (highest (suc h) cs)
highest_pair either h cs = popped h cs
highest_pair both h cs = popped h cs
highest_pair without h cs = popped h cs

highest_join : (h : ℕ) (cs : List ℕ) → highest (suc (suc h)) ((join_code ∷ []) ++ cs) ≡ max (suc (suc h)) (highest (suc h) cs)
highest_join h cs = popped h cs

-- The code of an expression, then cs: the machines of the expression on top of h, then one machine more than h.
pub postfix_highest : (e : Expr) → Leaves e → (h : ℕ) (cs : List ℕ) → highest h (postfix e ++ cs) ≡ max (h + deepest 1 e) (highest (suc h) cs)
postfix_highest (letter b) s h cs = highest_leaf b letter_kind h cs refl refl s
postfix_highest (name b) s h cs = highest_leaf b name_kind h cs refl refl s
postfix_highest dot s h cs = highest_leaf dot_code dot_kind h cs refl refl refl
postfix_highest empty s h cs = highest_leaf empty_code at_kind h cs refl refl refl
postfix_highest (pair o e f) s h cs =
    rw (append_assoc, append_assoc, postfix_highest e s.0, postfix_highest f s.1, highest_pair o) (omega (arith, some f))
postfix_highest (join e f) s h cs =
    rw (append_assoc, append_assoc, postfix_highest e s.0, postfix_highest f s.1, highest_join h cs) (omega (arith, some f))
postfix_highest (star e) s h cs = rw (append_assoc, postfix_highest e s) (omega (arith, some e))
postfix_highest (plus e) s h cs = rw (append_assoc, postfix_highest e s) (omega (arith, some e))
postfix_highest (option e) s h cs = rw (append_assoc, postfix_highest e s) (omega (arith, some e))
postfix_highest (complement e) s h cs = rw (append_assoc, postfix_highest e s) (omega (arith, some e))

under : (n a b : ℕ) → a ≤ n → b ≤ n → max a b ≤ n
under n a b h g = omega arith

pattern_highest : (n : ℕ) (cs : List ℕ) → 3 ≤ n → highest 1 cs ≤ n → highest 0 (pattern_program ++ cs) ≤ n
pattern_highest n cs h g = under n _ _ (omega arith) (under n _ _ (omega arith) (under n _ _ (omega arith) (under n _ _ (omega arith) (under n _ _ (omega arith) (under n _ _ (omega arith) (under n _ _ (omega arith) (under n _ _ (omega arith) (under n _ _ (omega arith) g))))))))

-- with X below, and without
context_highest : (n : ℕ) (cs : List ℕ) → 3 ≤ n → highest 2 cs ≤ n → highest 3 (context_program ++ cs) ≤ n
context_highest n cs h g = under n _ _ (omega arith) (under n _ _ (omega arith) (under n _ _ (omega arith) (under n _ _ (omega arith) (under n _ _ (omega arith) (under n _ _ (omega arith) (under n _ _ (omega arith) (under n _ _ (omega arith) (under n _ _ (omega arith) g))))))))

first_highest : (n : ℕ) (cs : List ℕ) → 3 ≤ n → highest 1 cs ≤ n → highest 2 (context_program ++ cs) ≤ n
first_highest n cs h g = under n _ _ (omega arith) (under n _ _ (omega arith) (under n _ _ (omega arith) (under n _ _ (omega arith) (under n _ _ (omega arith) (under n _ _ (omega arith) (under n _ _ (omega arith) (under n _ _ (omega arith) (under n _ _ (omega arith) g))))))))

contexts_highest : (n : ℕ) (o : Pairing) (cs : List (Expr × Expr)) → 1 ≤ n → AllHeld n cs → highest 1 (contexts_program o cs) ≤ n + 2
contexts_highest n o [] h s = omega arith
contexts_highest n o ((l, r) ∷ cs) h (a, b, s) =
    rw (postfix_highest l a.leaves, postfix_highest r b.leaves)
    (under (n + 2) _ _ (omega (arith, a.height))
    (under (n + 2) _ _ (omega (arith, b.height)) (context_highest (n + 2) (pair_code o ∷ contexts_program o cs) (omega arith) (subst (λ x. x ≤ n + 2) (sym (highest_pair o 0 (contexts_program o cs))) (under (n + 2) _ _ (omega arith) (contexts_highest n o cs h s))))))

union_highest : (n : ℕ) (cs : List (Expr × Expr)) → 1 ≤ n → AllHeld n cs → Some cs → highest 0 (union_program cs) ≤ n + 2
union_highest n [] h s x = absurd x
union_highest n ((l, r) ∷ cs) h (a, b, s) x =
    rw (postfix_highest l a.leaves, postfix_highest r b.leaves)
    (under (n + 2) _ _ (omega (arith, a.height))
    (under (n + 2) _ _ (omega (arith, b.height)) (first_highest (n + 2) (contexts_program either cs) (omega arith) (contexts_highest n either cs h s))))

set_highest : (n : ℕ) (kind : RuleKind) (cs : List (Expr × Expr)) → 1 ≤ n → AllHeld n cs → Enough kind cs → highest 0 (set_program kind cs) ≤ n + 2
set_highest n restricts cs h s x = pattern_highest (n + 2) (contexts_program without cs) (omega arith) (contexts_highest n without cs h s)
set_highest n forbids cs h s x = union_highest n cs h s x
set_highest n obliges cs h s x = union_highest n cs h s x

-- A program whose expressions hold at most n machines each holds at most n + 2: X and l lie below while r is made.
pub program_highest : (n : ℕ) (F : Form) → 1 ≤ n → FormHeld n F → highest 0 (program F) ≤ n + 2
program_highest n (define x e) h s = subst (λ cs. highest 0 cs ≤ n + 2) (append-nil (postfix e)) (rw (postfix_highest e s.leaves) (omega (arith, s.height)))
program_highest n (rule kind p cs) h (a, s, x) =
    rw (postfix_highest (pattern_of kind p) a.leaves)
    (under (n + 2) _ _ (omega (arith, a.height)) (under (n + 2) _ _ (omega arith) (set_highest n kind cs h s x)))
program_highest n malformed h s = omega arith

-- THE STACK OF A LINE. The program of a line that passes its tests holds at most 19 machines.
pub line_height : (l : Line) → line_test l ≡ 0 → highest 0 (program (form_of l.bytes)) ≤ 19
line_height l e = program_highest 17 (form_of l.bytes) (omega arith) (line_held l e)
