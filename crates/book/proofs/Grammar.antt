-- Laws of what specs/Grammar.antt defines.
use Rattle.std.specs.Prelude.{ℕ, zero, suc, ◌+◌, ◌*◌, ◌≤◌, ◌<◌, ◌≡◌, refl, Bool, true, false, ◌||◌, ◌↔◌, List, [], ◌∷◌, ◌++◌, eqb, length}
use Rattle.std.proofs.Common.{ap, ap₂, sym, ◌∙◌, subst, true≢false, inl, inr, append_assoc, append-nil, arith, le_refl, length-append}
use Rattle.automata.specs.Booleans.{choose}
use Rattle.automata.specs.Basics.{nat_test, SameCases, same_cases}
use Rattle.automata.specs.Stages.{either, both, without}
use Rattle.language.specs.Expression.{Expr, star, plus, pair, empty, join, option, complement, letter, name, dot}
use Rattle.book.specs.Kind.{kind_of, item_kind, is_letter, is_name, starts_item, sign_byte, letter_kind, dot_kind, at_kind, open_kind, bang_kind, star_kind, plus_kind, question_kind, ampersand_kind, minus_kind, bar_kind, close_kind, name_kind}
use Rattle.book.specs.Reader.{Read, got, bad, and_then, closed, repeats, repeated, choice, choices, blend, blends, chain, chains, item, atom, read_choice}
use Rattle.book.proofs.ReaderLaws.{choices_same, blends_same, chains_same}
use Rattle.book.specs.Grammar.{Atom, Blend, Chain, Choice, Followed, Item, Stops, a_dot, a_letter, a_name, an_at, and, bracket, by_option, by_plus, by_star, follow, followed, in_blend, in_chain, in_choice, in_item, minus, negated, one_atom, one_blend, one_chain, one_item, or}

-- ---- the reader is sound

-- What was read behind pre, with pre, is of the form P.
abbrev Derives : (List ℕ → Expr → Type 0) → List ℕ → List ℕ → Read → Type 0
Derives P pre ts (got e us) = (mid : List ℕ) × (ts ≡ mid ++ us) × P (pre ++ mid) e
Derives P pre ts bad = Unit {0}

choose_derives : (P : List ℕ → Expr → Type 0) (pre ts : List ℕ) (b : Bool) (f g : Unit {0} → Read) → (b ≡ true → Derives P pre ts (f tt)) → (b ≡ false → Derives P pre ts (g tt)) → Derives P pre ts (choose b f g)
choose_derives P pre ts true f g h k = h refl
choose_derives P pre ts false f g h k = k refl

-- P is read first, then Q behind it
then_derives : (P Q : List ℕ → Expr → Type 0) (pre ts : List ℕ) (r : Read) (f : Expr → List ℕ → Read) → Derives P [] ts r
    → ((e : Expr) (mid us : List ℕ) → P mid e → Derives Q (pre ++ mid) us (f e us)) → Derives Q pre ts (and_then r f)
then_derives P Q pre ts (got e us) f (mid, q, p) k = go (f e us) (k e mid us p)
  where
    go : (r : Read) → Derives Q (pre ++ mid) us r → Derives Q pre ts r
    go (got e' us') (mid', q', p') = (mid ++ mid', q ∙ ap (λ l. mid ++ l) q' ∙ sym (append_assoc mid mid' us'), subst (λ l. Q l e') (append_assoc pre mid mid') p')
    go bad d = tt
then_derives P Q pre ts bad f d k = tt

-- one byte read, then Q behind it
byte_derives : (Q : List ℕ → Expr → Type 0) (pre : List ℕ) (b : ℕ) (ts : List ℕ) (r : Read) → Derives Q (pre ++ (b ∷ [])) ts r → Derives Q pre (b ∷ ts) r
byte_derives Q pre b ts (got e us) (mid, q, p) = (b ∷ mid, ap (λ l. b ∷ l) q, subst (λ l. Q l e) (append_assoc pre (b ∷ []) mid) p)
byte_derives Q pre b ts bad d = tt

-- nothing more is read
stop_derives : (Q : List ℕ → Expr → Type 0) (pre ts : List ℕ) (e : Expr) → Q pre e → Derives Q pre ts (got e ts)
stop_derives Q pre ts e p = ([], refl, subst (λ l. Q l e) (sym (append-nil pre)) p)

repeats_sound : (ts : List ℕ) (pre : List ℕ) (e : Expr) → Followed pre e → Derives Followed pre ts (repeats ts e)
repeats_sound [] pre e p = stop_derives Followed pre [] e p
repeats_sound (b ∷ ts) pre e p =
    choose_derives Followed pre (b ∷ ts) (eqb (kind_of b) star_kind) _ _ (λ q. byte_derives Followed pre b ts (repeats ts (star e)) (repeats_sound ts (pre ++ (b ∷ [])) (star e) (by_star p (ap (λ x. pre ++ (x ∷ [])) (sign_byte b 4 q))))) λ _.
    choose_derives Followed pre (b ∷ ts) (eqb (kind_of b) plus_kind) _ _ (λ q. byte_derives Followed pre b ts (repeats ts (plus e)) (repeats_sound ts (pre ++ (b ∷ [])) (plus e) (by_plus p (ap (λ x. pre ++ (x ∷ [])) (sign_byte b 5 q))))) λ _.
    choose_derives Followed pre (b ∷ ts) (eqb (kind_of b) question_kind) _ _ (λ q. byte_derives Followed pre b ts (repeats ts (option e)) (repeats_sound ts (pre ++ (b ∷ [])) (option e) (by_option p (ap (λ x. pre ++ (x ∷ [])) (sign_byte b 6 q))))) λ _.
    stop_derives Followed pre (b ∷ ts) e p

map_derives : (P Q : List ℕ → Expr → Type 0) (pre pre' ts : List ℕ) (r : Read) → ((mid : List ℕ) (e : Expr) → P (pre ++ mid) e → Q (pre' ++ mid) e) → Derives P pre ts r → Derives Q pre' ts r
map_derives P Q pre pre' ts (got e us) f (mid, q, p) = (mid, q, f mid e p)
map_derives P Q pre pre' ts bad f d = tt

mutual
  choice_sound : (n : ℕ) (ts : List ℕ) → Derives Choice [] ts (choice n ts)
  choice_sound zero ts = tt
  choice_sound (suc n) ts = then_derives Blend Choice [] ts (blend n ts) (λ e us. choices n e us) (blend_sound n ts) (λ e mid us p. choices_sound n mid us e (one_blend p))

  choices_sound : (n : ℕ) (pre ts : List ℕ) (e : Expr) → Choice pre e → Derives Choice pre ts (choices n e ts)
  choices_sound zero pre ts e p = tt
  choices_sound (suc n) pre [] e p = stop_derives Choice pre [] e p
  choices_sound (suc n) pre (b ∷ ts) e p =
      choose_derives Choice pre (b ∷ ts) (eqb (kind_of b) bar_kind) _ _
      (λ q. byte_derives Choice pre b ts (and_then (blend n ts) (λ f us. choices n (pair either e f) us)) (then_derives Blend Choice (pre ++ (b ∷ [])) ts (blend n ts) (λ f us. choices n (pair either e f) us) (blend_sound n ts)
      (λ f mid us r. choices_sound n ((pre ++ (b ∷ [])) ++ mid) us (pair either e f) (or p r (append_assoc pre (b ∷ []) mid ∙ ap (λ x. pre ++ (x ∷ mid)) (sign_byte b 9 q))))))
      (λ _. stop_derives Choice pre (b ∷ ts) e p)

  blend_sound : (n : ℕ) (ts : List ℕ) → Derives Blend [] ts (blend n ts)
  blend_sound zero ts = tt
  blend_sound (suc n) ts = then_derives Chain Blend [] ts (chain n ts) (λ e us. blends n e us) (chain_sound n ts) (λ e mid us p. blends_sound n mid us e (one_chain p))

  blends_sound : (n : ℕ) (pre ts : List ℕ) (e : Expr) → Blend pre e → Derives Blend pre ts (blends n e ts)
  blends_sound zero pre ts e p = tt
  blends_sound (suc n) pre [] e p = stop_derives Blend pre [] e p
  blends_sound (suc n) pre (b ∷ ts) e p =
      choose_derives Blend pre (b ∷ ts) (eqb (kind_of b) ampersand_kind) _ _
      (λ q. byte_derives Blend pre b ts (and_then (chain n ts) (λ f us. blends n (pair both e f) us)) (then_derives Chain Blend (pre ++ (b ∷ [])) ts (chain n ts) (λ f us. blends n (pair both e f) us) (chain_sound n ts)
      (λ f mid us r. blends_sound n ((pre ++ (b ∷ [])) ++ mid) us (pair both e f) (and p r (append_assoc pre (b ∷ []) mid ∙ ap (λ x. pre ++ (x ∷ mid)) (sign_byte b 7 q)))))) λ _.
      choose_derives Blend pre (b ∷ ts) (eqb (kind_of b) minus_kind) _ _
      (λ q. byte_derives Blend pre b ts (and_then (chain n ts) (λ f us. blends n (pair without e f) us)) (then_derives Chain Blend (pre ++ (b ∷ [])) ts (chain n ts) (λ f us. blends n (pair without e f) us) (chain_sound n ts)
      (λ f mid us r. blends_sound n ((pre ++ (b ∷ [])) ++ mid) us (pair without e f) (minus p r (append_assoc pre (b ∷ []) mid ∙ ap (λ x. pre ++ (x ∷ mid)) (sign_byte b 8 q)))))) λ _.
      stop_derives Blend pre (b ∷ ts) e p

  chain_sound : (n : ℕ) (ts : List ℕ) → Derives Chain [] ts (chain n ts)
  chain_sound zero ts = tt
  chain_sound (suc n) ts = then_derives Item Chain [] ts (item n ts) (λ e us. chains n e us) (item_sound n ts) (λ e mid us p. chains_sound n mid us e (one_item p))

  chains_sound : (n : ℕ) (pre ts : List ℕ) (e : Expr) → Chain pre e → Derives Chain pre ts (chains n e ts)
  chains_sound zero pre ts e p = tt
  chains_sound (suc n) pre [] e p = stop_derives Chain pre [] e p
  chains_sound (suc n) pre (b ∷ ts) e p =
      choose_derives Chain pre (b ∷ ts) (starts_item b) _ _
      (λ q. then_derives Item Chain pre (b ∷ ts) (item n (b ∷ ts)) (λ f us. chains n (join e f) us) (item_sound n (b ∷ ts))
      (λ f mid us r. chains_sound n (pre ++ mid) us (join e f) (follow p r refl))) λ _.
      stop_derives Chain pre (b ∷ ts) e p

  item_sound : (n : ℕ) (ts : List ℕ) → Derives Item [] ts (item n ts)
  item_sound zero ts = tt
  item_sound (suc n) [] = tt
  item_sound (suc n) (b ∷ ts) =
      choose_derives Item [] (b ∷ ts) (eqb (kind_of b) bang_kind) _ _
      (λ q. byte_derives Item [] b ts (and_then (item n ts) (λ e us. got (complement e) us)) (then_derives Item Item (b ∷ []) ts (item n ts) (λ e us. got (complement e) us) (item_sound n ts)
      (λ e mid us p. stop_derives Item (b ∷ mid) us (complement e) (negated p (ap (λ x. x ∷ mid) (sign_byte b 3 q)))))) λ _.
      then_derives Atom Item [] (b ∷ ts) (atom n (b ∷ ts)) repeated (atom_sound n (b ∷ ts))
      (λ e mid us p. map_derives Followed Item mid mid us (repeats us e) (λ x f q. followed q) (repeats_sound us mid e (one_atom p)))

  atom_sound : (n : ℕ) (ts : List ℕ) → Derives Atom [] ts (atom n ts)
  atom_sound zero ts = tt
  atom_sound (suc n) [] = tt
  atom_sound (suc n) (b ∷ ts) =
      choose_derives Atom [] (b ∷ ts) (is_letter b) _ _ (λ q. (b ∷ [], refl, a_letter b q refl)) λ _.
      choose_derives Atom [] (b ∷ ts) (is_name b) _ _ (λ q. (b ∷ [], refl, a_name b q refl)) λ _.
      choose_derives Atom [] (b ∷ ts) (eqb (kind_of b) dot_kind) _ _ (λ q. (b ∷ [], refl, a_dot (ap (λ x. x ∷ []) (sign_byte b 0 q)))) λ _.
      choose_derives Atom [] (b ∷ ts) (eqb (kind_of b) at_kind) _ _ (λ q. (b ∷ [], refl, an_at (ap (λ x. x ∷ []) (sign_byte b 1 q)))) λ _.
      choose_derives Atom [] (b ∷ ts) (eqb (kind_of b) open_kind) _ _
      (λ q. byte_derives Atom [] b ts (and_then (choice n ts) closed) (then_derives Choice Atom (b ∷ []) ts (choice n ts) closed (choice_sound n ts)
      (λ e mid us p. close e mid us p q))) λ _.
      tt
    where
      close : (e : Expr) (mid us : List ℕ) → Choice mid e → eqb (kind_of b) open_kind ≡ true → Derives Atom (b ∷ mid) us (closed e us)
      close e mid [] p q = tt
      close e mid (c ∷ us) p q = choose_derives Atom (b ∷ mid) (c ∷ us) (eqb (kind_of c) close_kind) _ _ (λ t. (c ∷ [], refl, bracket p (ap₂ (λ x y. x ∷ (mid ++ (y ∷ []))) (sign_byte b 2 q) (sign_byte c 10 t)))) (λ _. tt)

-- What the reader reads is a choice of the grammar.
pub reader_sound : (ts us : List ℕ) (e : Expr) → read_choice ts ≡ got e us → (mid : List ℕ) × (ts ≡ mid ++ us) × Choice mid e
reader_sound ts us e q = subst (Derives Choice [] ts) q (choice_sound (6 * length ts + 5) ts)

-- ---- the reader is complete

or_left : (a b : Bool) → a || b ≡ false → a ≡ false
or_left true b e = e
or_left false b e = refl

or_right : (a b : Bool) → a || b ≡ false → b ≡ false
or_right true b e = absurd (true≢false e)
or_right false b e = e

stops_map : (p q : ℕ → Bool) → ((b : ℕ) → p b ≡ false → q b ≡ false) → (us : List ℕ) → Stops p us → Stops q us
stops_map p q f [] s = tt
stops_map p q f (b ∷ us) s = f b s

chain_item : (us : List ℕ) → Stops in_chain us → Stops in_item us
chain_item us s = stops_map in_chain in_item (λ b. or_left (in_item b) (starts_item b)) us s

blend_chain : (us : List ℕ) → Stops in_blend us → Stops in_chain us
blend_chain us s = stops_map in_blend in_chain (λ b. or_left (in_chain b) (eqb (kind_of b) ampersand_kind || eqb (kind_of b) minus_kind)) us s

choice_blend : (us : List ℕ) → Stops in_choice us → Stops in_blend us
choice_blend us s = stops_map in_choice in_blend (λ b. or_left (in_blend b) (eqb (kind_of b) bar_kind)) us s

-- any fuel that is enough does
any_fuel : (f : ℕ → Read) (b : ℕ) → ((n : ℕ) → b ≤ n → f n ≡ f (suc n)) → (n k : ℕ) → b ≤ n → b ≤ k → f n ≡ f k
any_fuel f b same n k hn hk = let z : k + n ≡ n + k = omega arith in up k n hn ∙ ap f z ∙ sym (up n k hk)
  where
    up : (d n : ℕ) → b ≤ n → f n ≡ f (d + n)
    up zero n h = let z : n ≡ 0 + n = omega arith in ap f z
    up (suc d) n h = let z : suc (d + n) ≡ suc d + n = omega arith in up d n h ∙ same (d + n) (omega arith) ∙ ap f z

choices_any : (e : Expr) (us : List ℕ) (n k : ℕ) → 6 * length us + 1 ≤ n → 6 * length us + 1 ≤ k → choices n e us ≡ choices k e us
choices_any e us n k hn hk = any_fuel (λ x. choices x e us) (6 * length us + 1) (λ x h. choices_same x e us h) n k hn hk

blends_any : (e : Expr) (us : List ℕ) (n k : ℕ) → 6 * length us + 1 ≤ n → 6 * length us + 1 ≤ k → blends n e us ≡ blends k e us
blends_any e us n k hn hk = any_fuel (λ x. blends x e us) (6 * length us + 1) (λ x h. blends_same x e us h) n k hn hk

chains_any : (e : Expr) (us : List ℕ) (n k : ℕ) → 6 * length us + 3 ≤ n → 6 * length us + 3 ≤ k → chains n e us ≡ chains k e us
chains_any e us n k hn hk = any_fuel (λ x. chains x e us) (6 * length us + 3) (λ x h. chains_same x e us h) n k hn hk

-- where they stop
repeats_stop : (e : Expr) (us : List ℕ) → Stops in_item us → repeats us e ≡ got e us
repeats_stop e [] s = refl
repeats_stop e (b ∷ us) s =
    let r = or_right (eqb (kind_of b) star_kind) (eqb (kind_of b) plus_kind || eqb (kind_of b) question_kind) s in
    rw (or_left (eqb (kind_of b) star_kind) (eqb (kind_of b) plus_kind || eqb (kind_of b) question_kind) s, or_left (eqb (kind_of b) plus_kind) (eqb (kind_of b) question_kind) r, or_right (eqb (kind_of b) plus_kind) (eqb (kind_of b) question_kind) r)

chains_stop : (k : ℕ) (e : Expr) (us : List ℕ) → 6 * length us + 3 ≤ k → Stops in_chain us → chains k e us ≡ got e us
chains_stop zero e us h s = absurd (omega arith)
chains_stop (suc k) e [] h s = refl
chains_stop (suc k) e (b ∷ us) h s = ap (λ t. choose t (λ _. and_then (item k (b ∷ us)) λ f vs. chains k (join e f) vs) (λ _. got e (b ∷ us))) (or_right (in_item b) (starts_item b) s)

blends_stop : (k : ℕ) (e : Expr) (us : List ℕ) → 6 * length us + 1 ≤ k → Stops in_blend us → blends k e us ≡ got e us
blends_stop zero e us h s = absurd (omega arith)
blends_stop (suc k) e [] h s = refl
blends_stop (suc k) e (b ∷ us) h s =
    let r = or_right (in_chain b) (eqb (kind_of b) ampersand_kind || eqb (kind_of b) minus_kind) s in
    rw (or_left (eqb (kind_of b) ampersand_kind) (eqb (kind_of b) minus_kind) r, or_right (eqb (kind_of b) ampersand_kind) (eqb (kind_of b) minus_kind) r)

choices_stop : (k : ℕ) (e : Expr) (us : List ℕ) → 6 * length us + 1 ≤ k → Stops in_choice us → choices k e us ≡ got e us
choices_stop zero e us h s = absurd (omega arith)
choices_stop (suc k) e [] h s = refl
choices_stop (suc k) e (b ∷ us) h s = rw (or_right (in_blend b) (eqb (kind_of b) bar_kind) s)

-- the steps of the reader, whatever the fuel
choice_step : (n : ℕ) (ts : List ℕ) (e : Expr) (us : List ℕ) (k : ℕ) → 6 * length ts + 5 ≤ n → length us ≤ length ts → 6 * length us + 1 ≤ k
    → ((j : ℕ) → 6 * length ts + 4 ≤ j → blend j ts ≡ got e us) → choice n ts ≡ choices k e us
choice_step zero ts e us k h l hk f = absurd (omega arith)
choice_step (suc n) ts e us k h l hk f = ap (λ r. and_then r (λ e us. choices n e us)) (f n (omega arith)) ∙ choices_any e us n k (omega arith) hk

blend_step : (n : ℕ) (ts : List ℕ) (e : Expr) (us : List ℕ) (k : ℕ) → 6 * length ts + 4 ≤ n → length us ≤ length ts → 6 * length us + 1 ≤ k
    → ((j : ℕ) → 6 * length ts + 3 ≤ j → chain j ts ≡ got e us) → blend n ts ≡ blends k e us
blend_step zero ts e us k h l hk f = absurd (omega arith)
blend_step (suc n) ts e us k h l hk f = ap (λ r. and_then r (λ e us. blends n e us)) (f n (omega arith)) ∙ blends_any e us n k (omega arith) hk

chain_step : (n : ℕ) (ts : List ℕ) (e : Expr) (us : List ℕ) (k : ℕ) → 6 * length ts + 3 ≤ n → length us < length ts → 6 * length us + 3 ≤ k
    → ((j : ℕ) → 6 * length ts + 2 ≤ j → item j ts ≡ got e us) → chain n ts ≡ chains k e us
chain_step zero ts e us k h l hk f = absurd (omega arith)
chain_step (suc n) ts e us k h l hk f = ap (λ r. and_then r (λ e us. chains n e us)) (f n (omega arith)) ∙ chains_any e us n k (omega arith) hk

not_step : (n : ℕ) (ts : List ℕ) (e : Expr) (us : List ℕ) → 6 * length (33 ∷ ts) + 2 ≤ n → ((j : ℕ) → 6 * length ts + 2 ≤ j → item j ts ≡ got e us)
    → item n (33 ∷ ts) ≡ got (complement e) us
not_step zero ts e us h f = absurd (omega arith)
not_step (suc n) ts e us h f = ap (λ r. and_then r (λ e us. got (complement e) us)) (f n (omega arith))

atom_step : (n b : ℕ) (ts : List ℕ) (r : Read) → eqb (kind_of b) bang_kind ≡ false → 6 * length (b ∷ ts) + 2 ≤ n → ((j : ℕ) → 6 * length (b ∷ ts) + 1 ≤ j → and_then (atom j (b ∷ ts)) repeated ≡ r) → item n (b ∷ ts) ≡ r
atom_step zero b ts r q h f = absurd (omega arith)
atom_step (suc n) b ts r q h f = ap (λ t. choose t (λ _. and_then (item n ts) λ e us. got (complement e) us) (λ _. and_then (atom n (b ∷ ts)) repeated)) q ∙ f n (omega arith)

letter_step : (n b : ℕ) (us : List ℕ) → 6 * length (b ∷ us) + 1 ≤ n → is_letter b ≡ true → atom n (b ∷ us) ≡ got (letter b) us
letter_step zero b us h q = absurd (omega arith)
letter_step (suc n) b us h q = rw q

-- a number that passes a test is not one that fails it
not_sign : (p : ℕ → Bool) (b n : ℕ) → p n ≡ false → p b ≡ true → eqb b n ≡ false
not_sign p b n f t = go (same_cases nat_test b n)
  where
    go : SameCases nat_test b n → eqb b n ≡ false
    go (inl q) = absurd (true≢false (sym t ∙ ap p q.0 ∙ f))
    go (inr q) = q.1

not_letter : (b : ℕ) → is_name b ≡ true → is_letter b ≡ false
not_letter b q = not_sign (λ k. eqb k name_kind) (kind_of b) letter_kind refl q

name_step : (n b : ℕ) (us : List ℕ) → 6 * length (b ∷ us) + 1 ≤ n → is_name b ≡ true → atom n (b ∷ us) ≡ got (name b) us
name_step zero b us h q = absurd (omega arith)
name_step (suc n) b us h q = rw (not_letter b q, q)

sign_step : (n : ℕ) (us : List ℕ) → 1 ≤ n → (atom n (46 ∷ us) ≡ got dot us) × (atom n (64 ∷ us) ≡ got empty us)
sign_step zero us h = absurd (omega arith)
sign_step (suc n) us h = (refl, refl)

bracket_step : (n : ℕ) (ts : List ℕ) (e : Expr) (us : List ℕ) → 6 * length (40 ∷ ts) + 1 ≤ n → ((j : ℕ) → 6 * length ts + 5 ≤ j → choice j ts ≡ got e (41 ∷ us)) → atom n (40 ∷ ts) ≡ got e us
bracket_step zero ts e us h f = absurd (omega arith)
bracket_step (suc n) ts e us h f = ap (λ r. and_then r closed) (f n (omega arith))

chains_go : (j : ℕ) (e : Expr) (ts : List ℕ) (b : ℕ) (vs : List ℕ) → ts ≡ b ∷ vs → starts_item b ≡ true → chains (suc j) e ts ≡ and_then (item j ts) (λ f us. chains j (join e f) us)
chains_go j e ts b vs q s = rw q (ap (λ t. choose t (λ _. and_then (item j (b ∷ vs)) λ f us. chains j (join e f) us) (λ _. got e (b ∷ vs))) s)

-- how an item begins
abbrev Begins : List ℕ → Type 0
Begins ts = (b : ℕ) × (vs : List ℕ) × (ts ≡ b ∷ vs) × (starts_item b ≡ true) × (eqb (kind_of b) bang_kind ≡ false)

-- what begins an item, seen from its kind
starts : (b k : ℕ) → item_kind k ≡ true → eqb (kind_of b) k ≡ true → starts_item b ≡ true
starts b k t q = ap item_kind (nat_test.sound (kind_of b) k q) ∙ t

atom_begins : {ts : List ℕ} {e : Expr} → Atom ts e → Begins ts
atom_begins (a_letter b q z) = (b, [], z, starts b letter_kind refl q, not_sign (λ k. eqb k letter_kind) (kind_of b) bang_kind refl q)
atom_begins (a_name b q z) = (b, [], z, starts b name_kind refl q, not_sign (λ k. eqb k name_kind) (kind_of b) bang_kind refl q)
atom_begins (a_dot z) = (46, [], z, refl, refl)
atom_begins (an_at z) = (64, [], z, refl, refl)
atom_begins (bracket {ts = ts} c z) = (40, ts ++ (41 ∷ []), z, refl, refl)

followed_begins : {ts : List ℕ} {e : Expr} → Followed ts e → Begins ts
followed_begins (one_atom a) = atom_begins a
followed_begins (by_star f z) = let (b, vs, q, s, t) = followed_begins f in (b, vs ++ (42 ∷ []), z ∙ ap (λ l. l ++ (42 ∷ [])) q, s, t)
followed_begins (by_plus f z) = let (b, vs, q, s, t) = followed_begins f in (b, vs ++ (43 ∷ []), z ∙ ap (λ l. l ++ (43 ∷ [])) q, s, t)
followed_begins (by_option f z) = let (b, vs, q, s, t) = followed_begins f in (b, vs ++ (63 ∷ []), z ∙ ap (λ l. l ++ (63 ∷ [])) q, s, t)

item_begins : {ts : List ℕ} {e : Expr} → Item ts e → (b : ℕ) × (vs : List ℕ) × (ts ≡ b ∷ vs) × (starts_item b ≡ true)
item_begins (negated {ts = ts} i z) = (33, ts, z, refl)
item_begins (followed f) = let (b, vs, q, s, t) = followed_begins f in (b, vs, q, s)

starts_stops : (b : ℕ) → starts_item b ≡ true → in_item b ≡ false
starts_stops b s = rw (not_sign item_kind (kind_of b) star_kind refl s, not_sign item_kind (kind_of b) plus_kind refl s, not_sign item_kind (kind_of b) question_kind refl s)

begins_stops : (ts us : List ℕ) (b : ℕ) (vs : List ℕ) → ts ≡ b ∷ vs → starts_item b ≡ true → Stops in_item (ts ++ us)
begins_stops ts us b vs q s = rw q (starts_stops b s)

mutual
  choice_whole : {ts : List ℕ} {e : Expr} → Choice ts e → (us : List ℕ) → Stops in_blend us → (n k : ℕ) → 6 * length (ts ++ us) + 5 ≤ n → 6 * length us + 1 ≤ k → choice n (ts ++ us) ≡ choices k e us
  choice_whole (one_blend {ts = ts} {e = e} b) us s n k hn hk =
      choice_step n (ts ++ us) e us k hn (omega (arith, length-append ts us)) hk
      (λ j hj. blend_whole b us (blend_chain us s) j (6 * length us + 1) hj (le_refl (6 * length us + 1)) ∙ blends_stop (6 * length us + 1) e us (le_refl (6 * length us + 1)) s)
  choice_whole (or {all = all} {ts = ts} {us = vs} {e = e} {f = f} c b z) us s n k hn hk =
      let j : ℕ = 6 * length (vs ++ us) + 6 in
      let l : length (ts ++ (124 ∷ (vs ++ us))) ≡ length ((ts ++ (124 ∷ vs)) ++ us) = ap length (sym (append_assoc ts (124 ∷ vs) us)) in
      let l' : length (all ++ us) ≡ length ((ts ++ (124 ∷ vs)) ++ us) = ap (λ l. length (l ++ us)) z in
      ap (λ l. choice n (l ++ us)) z ∙ ap (choice n) (append_assoc ts (124 ∷ vs) us)
      ∙ choice_whole c (124 ∷ (vs ++ us)) refl n (suc j) (omega arith) (omega arith)
      ∙ ap (λ r. and_then r (λ f us. choices j (pair either e f) us))
      (blend_whole b us (blend_chain us s) j (6 * length us + 1) (omega arith) (le_refl (6 * length us + 1)) ∙ blends_stop (6 * length us + 1) f us (le_refl (6 * length us + 1)) s)
      ∙ choices_any (pair either e f) us j k (omega (arith, length-append vs us)) hk

  blend_whole : {ts : List ℕ} {e : Expr} → Blend ts e → (us : List ℕ) → Stops in_chain us → (n k : ℕ) → 6 * length (ts ++ us) + 4 ≤ n → 6 * length us + 1 ≤ k → blend n (ts ++ us) ≡ blends k e us
  blend_whole (one_chain {ts = ts} {e = e} c) us s n k hn hk =
      blend_step n (ts ++ us) e us k hn (omega (arith, length-append ts us)) hk
      (λ j hj. chain_whole c us (chain_item us s) j (6 * length us + 3) hj (le_refl (6 * length us + 3)) ∙ chains_stop (6 * length us + 3) e us (le_refl (6 * length us + 3)) s)
  blend_whole (and {all = all} {ts = ts} {us = vs} {e = e} {f = f} c b z) us s n k hn hk =
      let j : ℕ = 6 * length (vs ++ us) + 6 in
      let l : length (ts ++ (38 ∷ (vs ++ us))) ≡ length ((ts ++ (38 ∷ vs)) ++ us) = ap length (sym (append_assoc ts (38 ∷ vs) us)) in
      let l' : length (all ++ us) ≡ length ((ts ++ (38 ∷ vs)) ++ us) = ap (λ l. length (l ++ us)) z in
      ap (λ l. blend n (l ++ us)) z ∙ ap (blend n) (append_assoc ts (38 ∷ vs) us)
      ∙ blend_whole c (38 ∷ (vs ++ us)) refl n (suc j) (omega arith) (omega arith)
      ∙ ap (λ r. and_then r (λ f us. blends j (pair both e f) us))
      (chain_whole b us (chain_item us s) j (6 * length us + 3) (omega arith) (le_refl (6 * length us + 3)) ∙ chains_stop (6 * length us + 3) f us (le_refl (6 * length us + 3)) s)
      ∙ blends_any (pair both e f) us j k (omega (arith, length-append vs us)) hk
  blend_whole (minus {all = all} {ts = ts} {us = vs} {e = e} {f = f} c b z) us s n k hn hk =
      let j : ℕ = 6 * length (vs ++ us) + 6 in
      let l : length (ts ++ (45 ∷ (vs ++ us))) ≡ length ((ts ++ (45 ∷ vs)) ++ us) = ap length (sym (append_assoc ts (45 ∷ vs) us)) in
      let l' : length (all ++ us) ≡ length ((ts ++ (45 ∷ vs)) ++ us) = ap (λ l. length (l ++ us)) z in
      ap (λ l. blend n (l ++ us)) z ∙ ap (blend n) (append_assoc ts (45 ∷ vs) us)
      ∙ blend_whole c (45 ∷ (vs ++ us)) refl n (suc j) (omega arith) (omega arith)
      ∙ ap (λ r. and_then r (λ f us. blends j (pair without e f) us))
      (chain_whole b us (chain_item us s) j (6 * length us + 3) (omega arith) (le_refl (6 * length us + 3)) ∙ chains_stop (6 * length us + 3) f us (le_refl (6 * length us + 3)) s)
      ∙ blends_any (pair without e f) us j k (omega (arith, length-append vs us)) hk

  chain_whole : {ts : List ℕ} {e : Expr} → Chain ts e → (us : List ℕ) → Stops in_item us → (n k : ℕ) → 6 * length (ts ++ us) + 3 ≤ n → 6 * length us + 3 ≤ k → chain n (ts ++ us) ≡ chains k e us
  chain_whole (one_item {ts = ts} {e = e} i) us s n k hn hk =
      let (b, vs, q, t) = item_begins i in
      let l : length ts ≡ suc (length vs) = ap length q in
      chain_step n (ts ++ us) e us k hn (omega (arith, length-append ts us)) hk (λ j hj. item_whole i us s j hj)
  chain_whole (follow {all = all} {ts = ts} {us = vs} {e = e} {f = f} c i z) us s n k hn hk =
      let (b, xs, q, t) = item_begins i in
      let j : ℕ = 6 * length (vs ++ us) + 2 in
      let l : length (ts ++ (vs ++ us)) ≡ length ((ts ++ vs) ++ us) = ap length (sym (append_assoc ts vs us)) in
      let l' : length (all ++ us) ≡ length ((ts ++ vs) ++ us) = ap (λ l. length (l ++ us)) z in
      let m : length vs ≡ suc (length xs) = ap length q in
      ap (λ l. chain n (l ++ us)) z ∙ ap (chain n) (append_assoc ts vs us)
      ∙ chain_whole c (vs ++ us) (begins_stops vs us b xs q t) n (suc j) (omega arith) (omega arith)
      ∙ chains_go j e (vs ++ us) b (xs ++ us) (ap (λ l. l ++ us) q) t
      ∙ ap (λ r. and_then r (λ f us. chains j (join e f) us)) (item_whole i us s j (le_refl j))
      ∙ chains_any (join e f) us j k (omega (arith, length-append vs us)) hk

  item_whole : {ts : List ℕ} {e : Expr} → Item ts e → (us : List ℕ) → Stops in_item us → (n : ℕ) → 6 * length (ts ++ us) + 2 ≤ n → item n (ts ++ us) ≡ got e us
  item_whole (negated {ts = ts} {e = e} i z) us s n hn = rw z (not_step n (ts ++ us) e us (rw z at hn) (λ j hj. item_whole i us s j hj))
  item_whole (followed {ts = ts} {e = e} f) us s n hn =
      begun (followed_begins f) (λ j hj. followed_whole f us j hj ∙ repeats_stop e us s)
    where
      begun : Begins ts → ((j : ℕ) → 6 * length (ts ++ us) + 1 ≤ j → and_then (atom j (ts ++ us)) repeated ≡ got e us) → item n (ts ++ us) ≡ got e us
      begun (b, vs, q, t, x) g =
          let z : ts ++ us ≡ b ∷ (vs ++ us) = ap (λ l. l ++ us) q in
          rw z (atom_step n b (vs ++ us) (got e us) x (rw z at hn) (rw z at g))

  followed_whole : {ts : List ℕ} {e : Expr} → Followed ts e → (us : List ℕ) (n : ℕ) → 6 * length (ts ++ us) + 1 ≤ n → and_then (atom n (ts ++ us)) repeated ≡ repeats us e
  followed_whole (one_atom a) us n hn = ap (λ r. and_then r repeated) (atom_whole a us n hn)
  followed_whole (by_star {ts = ts} f z) us n hn = rw (z, append_assoc) (followed_whole f (42 ∷ us) n (rw (z, append_assoc) at hn))
  followed_whole (by_plus {ts = ts} f z) us n hn = rw (z, append_assoc) (followed_whole f (43 ∷ us) n (rw (z, append_assoc) at hn))
  followed_whole (by_option {ts = ts} f z) us n hn = rw (z, append_assoc) (followed_whole f (63 ∷ us) n (rw (z, append_assoc) at hn))

  atom_whole : {ts : List ℕ} {e : Expr} → Atom ts e → (us : List ℕ) (n : ℕ) → 6 * length (ts ++ us) + 1 ≤ n → atom n (ts ++ us) ≡ got e us
  atom_whole (a_letter b q z) us n hn = rw z (letter_step n b us (rw z at hn) q)
  atom_whole (a_name b q z) us n hn = rw z (name_step n b us (rw z at hn) q)
  atom_whole (a_dot z) us n hn = rw z (sign_step n us (omega arith)).0
  atom_whole (an_at z) us n hn = rw z (sign_step n us (omega arith)).1
  atom_whole (bracket {ts = ts} {e = e} c z) us n hn =
      let k : ℕ = 6 * length (41 ∷ us) + 1 in
      ap (λ l. atom n (l ++ us)) z ∙ ap (λ l. atom n (40 ∷ l)) (append_assoc ts (41 ∷ []) us)
      ∙ bracket_step n (ts ++ (41 ∷ us)) e us (subst (λ l. 6 * length (40 ∷ l) + 1 ≤ n) (append_assoc ts (41 ∷ []) us) (rw z at hn))
      (λ j hj. choice_whole c (41 ∷ us) refl j k hj (le_refl k) ∙ choices_stop k e (41 ∷ us) (le_refl k) refl)

-- A choice of the grammar is read, up to the first byte that cannot go on with it.
pub reader_whole : (ts : List ℕ) (e : Expr) → Choice ts e → (us : List ℕ) → Stops in_choice us → read_choice (ts ++ us) ≡ got e us
reader_whole ts e c us s =
    choice_whole c us (choice_blend us s) (6 * length (ts ++ us) + 5) (6 * length us + 1) (le_refl (6 * length (ts ++ us) + 5)) (le_refl (6 * length us + 1))
    ∙ choices_stop (6 * length us + 1) e us (le_refl (6 * length us + 1)) s

-- THE READER reads a whole text as e exactly when it is a choice of the grammar with the expression e.
pub reader_exact : (ts : List ℕ) (e : Expr) → (read_choice ts ≡ got e []) ↔ Choice ts e
reader_exact ts e = (
  λ q. let (mid, p, c) = reader_sound ts [] e q in subst (λ l. Choice l e) (sym (p ∙ append-nil mid)) c,
  λ c. ap read_choice (sym (append-nil ts)) ∙ reader_whole ts e c [] tt,
)
