-- Laws of what specs/ReaderLaws.antt defines.
use Rattle.std.specs.Prelude.{ℕ, zero, suc, ◌+◌, ◌*◌, ◌≤◌, ◌<◌, ◌≡◌, refl, Bool, true, false, List, [], ◌∷◌, eqb, length}
use Rattle.std.proofs.Common.{arith}
use Rattle.automata.specs.Booleans.{choose}
use Rattle.automata.specs.Stages.{either, both, without}
use Rattle.language.specs.Expression.{Expr, star, plus, pair, join, option, complement}
use Rattle.book.specs.Kind.{kind_of, is_letter, is_name, starts_item, dot_kind, at_kind, open_kind, bang_kind, star_kind, plus_kind, question_kind, ampersand_kind, minus_kind, bar_kind, close_kind}
use Rattle.book.specs.Reader.{Read, got, and_then, closed, repeats, repeated, choice, choices, blend, blends, chain, chains, item, atom}
use Rattle.book.specs.ReaderLaws.{Short, left, none}

pub choose_ind : {A : Type 0} (P : A → Type 0) (b : Bool) (f g : Unit {0} → A) → P (f tt) → P (g tt) → P (choose b f g)
choose_ind P true f g t e = t
choose_ind P false f g t e = e

weaken : {a b : ℕ} (r : Read) → a ≤ b → Short a r → Short b r
weaken r h (left e us s) = left e us (omega arith)
weaken r h none = none

then_short : {a b : ℕ} (r : Read) (f : Expr → List ℕ → Read) → Short a r → ((e : Expr) (us : List ℕ) → length us < a → Short b (f e us)) → Short b (and_then r f)
then_short r f (left e us s) k = k e us s
then_short r f none k = none

repeats_short : (ts : List ℕ) (e : Expr) → Short (suc (length ts)) (repeats ts e)
repeats_short [] e = left _ [] (omega arith)
repeats_short (b ∷ ts) e =
    choose_ind (Short _) (eqb (kind_of b) star_kind) _ _ (weaken _ (omega arith) (repeats_short ts (star e)))
    (choose_ind (Short _) (eqb (kind_of b) plus_kind) _ _ (weaken _ (omega arith) (repeats_short ts (plus e)))
    (choose_ind (Short _) (eqb (kind_of b) question_kind) _ _ (weaken _ (omega arith) (repeats_short ts (option e)))
    (left _ (b ∷ ts) (omega arith))))

closed_short : (e : Expr) (ts : List ℕ) → Short (suc (length ts)) (closed e ts)
closed_short e [] = none
closed_short e (b ∷ ts) = choose_ind (Short _) (eqb (kind_of b) close_kind) _ _ (left _ ts (omega arith)) none

mutual
  choice_short : (n : ℕ) (ts : List ℕ) → Short (length ts) (choice n ts)
  choice_short zero ts = none
  choice_short (suc n) ts = then_short (blend n ts) (λ e us. choices n e us) (blend_short n ts) (λ e us h. weaken _ h (choices_short n e us))

  choices_short : (n : ℕ) (e : Expr) (ts : List ℕ) → Short (suc (length ts)) (choices n e ts)
  choices_short zero e ts = none
  choices_short (suc n) e [] = left _ [] (omega arith)
  choices_short (suc n) e (b ∷ ts) =
      choose_ind (Short _) (eqb (kind_of b) bar_kind) _ _
      (then_short (blend n ts) (λ f us. choices n (pair either e f) us) (blend_short n ts) (λ f us h. weaken _ (omega arith) (choices_short n (pair either e f) us)))
      (left _ (b ∷ ts) (omega arith))

  blend_short : (n : ℕ) (ts : List ℕ) → Short (length ts) (blend n ts)
  blend_short zero ts = none
  blend_short (suc n) ts = then_short (chain n ts) (λ e us. blends n e us) (chain_short n ts) (λ e us h. weaken _ h (blends_short n e us))

  blends_short : (n : ℕ) (e : Expr) (ts : List ℕ) → Short (suc (length ts)) (blends n e ts)
  blends_short zero e ts = none
  blends_short (suc n) e [] = left _ [] (omega arith)
  blends_short (suc n) e (b ∷ ts) =
      choose_ind (Short _) (eqb (kind_of b) ampersand_kind) _ _
      (then_short (chain n ts) (λ f us. blends n (pair both e f) us) (chain_short n ts) (λ f us h. weaken _ (omega arith) (blends_short n (pair both e f) us)))
      (choose_ind (Short _) (eqb (kind_of b) minus_kind) _ _
      (then_short (chain n ts) (λ f us. blends n (pair without e f) us) (chain_short n ts) (λ f us h. weaken _ (omega arith) (blends_short n (pair without e f) us)))
      (left _ (b ∷ ts) (omega arith)))

  chain_short : (n : ℕ) (ts : List ℕ) → Short (length ts) (chain n ts)
  chain_short zero ts = none
  chain_short (suc n) ts = then_short (item n ts) (λ e us. chains n e us) (item_short n ts) (λ e us h. weaken _ h (chains_short n e us))

  chains_short : (n : ℕ) (e : Expr) (ts : List ℕ) → Short (suc (length ts)) (chains n e ts)
  chains_short zero e ts = none
  chains_short (suc n) e [] = left _ [] (omega arith)
  chains_short (suc n) e (b ∷ ts) =
      choose_ind (Short _) (starts_item b) _ _
      (then_short (item n (b ∷ ts)) (λ f us. chains n (join e f) us) (item_short n (b ∷ ts)) (λ f us h. weaken _ (omega arith) (chains_short n (join e f) us)))
      (left _ (b ∷ ts) (omega arith))

  item_short : (n : ℕ) (ts : List ℕ) → Short (length ts) (item n ts)
  item_short zero ts = none
  item_short (suc n) [] = none
  item_short (suc n) (b ∷ ts) =
      choose_ind (Short _) (eqb (kind_of b) bang_kind) _ _
      (then_short (item n ts) (λ e us. got (complement e) us) (item_short n ts) (λ e us h. left _ us (omega arith)))
      (then_short (atom n (b ∷ ts)) repeated (atom_short n (b ∷ ts)) (λ e us h. weaken _ h (repeats_short us e)))

  atom_short : (n : ℕ) (ts : List ℕ) → Short (length ts) (atom n ts)
  atom_short zero ts = none
  atom_short (suc n) [] = none
  atom_short (suc n) (b ∷ ts) =
      choose_ind (Short _) (is_letter b) _ _ (left _ ts (omega arith))
      (choose_ind (Short _) (is_name b) _ _ (left _ ts (omega arith))
      (choose_ind (Short _) (eqb (kind_of b) dot_kind) _ _ (left _ ts (omega arith))
      (choose_ind (Short _) (eqb (kind_of b) at_kind) _ _ (left _ ts (omega arith))
      (choose_ind (Short _) (eqb (kind_of b) open_kind) _ _ (then_short (choice n ts) closed (choice_short n ts) (λ e us h. weaken _ (omega arith) (closed_short e us))) none))))

then_same : (a : ℕ) (r r' : Read) (f g : Expr → List ℕ → Read) → r ≡ r' → Short a r → ((e : Expr) (us : List ℕ) → length us < a → f e us ≡ g e us) → and_then r f ≡ and_then r' g
then_same a r r' f g q s k = rw (← q) (go r s)
  where
    go : (r : Read) → Short a r → and_then r f ≡ and_then r g
    go r (left e us h) = k e us h
    go r none = refl

choose_same : {A : Type 0} (b : Bool) (f f' g g' : Unit {0} → A) → f tt ≡ f' tt → g tt ≡ g' tt → choose b f g ≡ choose b f' g'
choose_same true f f' g g' p q = p
choose_same false f f' g g' p q = q

-- more fuel than there can be calls changes nothing
mutual
  pub choice_same : (n : ℕ) (ts : List ℕ) → 6 * length ts + 5 ≤ n → choice n ts ≡ choice (suc n) ts
  choice_same zero ts h = absurd (omega arith)
  choice_same (suc n) ts h =
      then_same (length ts) _ _ (λ e us. choices n e us) (λ e us. choices (suc n) e us) (blend_same n ts (omega arith)) (blend_short n ts)
      (λ e us k. choices_same n e us (omega arith))

  pub choices_same : (n : ℕ) (e : Expr) (ts : List ℕ) → 6 * length ts + 1 ≤ n → choices n e ts ≡ choices (suc n) e ts
  choices_same zero e ts h = absurd (omega arith)
  choices_same (suc n) e [] h = refl
  choices_same (suc n) e (b ∷ ts) h =
      choose_same (eqb (kind_of b) bar_kind) _ _ _ _
      (then_same (length ts) _ _ (λ f us. choices n (pair either e f) us) (λ f us. choices (suc n) (pair either e f) us) (blend_same n ts (omega arith)) (blend_short n ts)
      (λ f us k. choices_same n (pair either e f) us (omega arith)))
      refl

  blend_same : (n : ℕ) (ts : List ℕ) → 6 * length ts + 4 ≤ n → blend n ts ≡ blend (suc n) ts
  blend_same zero ts h = absurd (omega arith)
  blend_same (suc n) ts h =
      then_same (length ts) _ _ (λ e us. blends n e us) (λ e us. blends (suc n) e us) (chain_same n ts (omega arith)) (chain_short n ts)
      (λ e us k. blends_same n e us (omega arith))

  pub blends_same : (n : ℕ) (e : Expr) (ts : List ℕ) → 6 * length ts + 1 ≤ n → blends n e ts ≡ blends (suc n) e ts
  blends_same zero e ts h = absurd (omega arith)
  blends_same (suc n) e [] h = refl
  blends_same (suc n) e (b ∷ ts) h =
      choose_same (eqb (kind_of b) ampersand_kind) _ _ _ _
      (then_same (length ts) _ _ (λ f us. blends n (pair both e f) us) (λ f us. blends (suc n) (pair both e f) us) (chain_same n ts (omega arith)) (chain_short n ts)
      (λ f us k. blends_same n (pair both e f) us (omega arith)))
      (choose_same (eqb (kind_of b) minus_kind) _ _ _ _
      (then_same (length ts) _ _ (λ f us. blends n (pair without e f) us) (λ f us. blends (suc n) (pair without e f) us) (chain_same n ts (omega arith)) (chain_short n ts)
      (λ f us k. blends_same n (pair without e f) us (omega arith)))
      refl)

  chain_same : (n : ℕ) (ts : List ℕ) → 6 * length ts + 3 ≤ n → chain n ts ≡ chain (suc n) ts
  chain_same zero ts h = absurd (omega arith)
  chain_same (suc n) ts h =
      then_same (length ts) _ _ (λ e us. chains n e us) (λ e us. chains (suc n) e us) (item_same n ts (omega arith)) (item_short n ts)
      (λ e us k. chains_same n e us (omega arith))

  pub chains_same : (n : ℕ) (e : Expr) (ts : List ℕ) → 6 * length ts + 3 ≤ n → chains n e ts ≡ chains (suc n) e ts
  chains_same zero e ts h = absurd (omega arith)
  chains_same (suc n) e [] h = refl
  chains_same (suc n) e (b ∷ ts) h =
      choose_same (starts_item b) _ _ _ _
      (then_same (length (b ∷ ts)) _ _ (λ f us. chains n (join e f) us) (λ f us. chains (suc n) (join e f) us) (item_same n (b ∷ ts) (omega arith)) (item_short n (b ∷ ts))
      (λ f us k. chains_same n (join e f) us (omega arith)))
      refl

  item_same : (n : ℕ) (ts : List ℕ) → 6 * length ts + 2 ≤ n → item n ts ≡ item (suc n) ts
  item_same zero ts h = absurd (omega arith)
  item_same (suc n) [] h = refl
  item_same (suc n) (b ∷ ts) h =
      choose_same (eqb (kind_of b) bang_kind) _ _ _ _
      (then_same (length ts) _ _ (λ e us. got (complement e) us) (λ e us. got (complement e) us) (item_same n ts (omega arith)) (item_short n ts) (λ e us k. refl))
      (then_same (length (b ∷ ts)) _ _ repeated repeated (atom_same n (b ∷ ts) (omega arith)) (atom_short n (b ∷ ts)) (λ e us k. refl))

  atom_same : (n : ℕ) (ts : List ℕ) → 6 * length ts + 1 ≤ n → atom n ts ≡ atom (suc n) ts
  atom_same zero ts h = absurd (omega arith)
  atom_same (suc n) [] h = refl
  atom_same (suc n) (b ∷ ts) h =
      choose_same (is_letter b) _ _ _ _ refl
      (choose_same (is_name b) _ _ _ _ refl
      (choose_same (eqb (kind_of b) dot_kind) _ _ _ _ refl
      (choose_same (eqb (kind_of b) at_kind) _ _ _ _ refl
      (choose_same (eqb (kind_of b) open_kind) _ _ _ _ (then_same (length ts) _ _ closed closed (choice_same n ts (omega arith)) (choice_short n ts) (λ e us k. refl)) refl))))
