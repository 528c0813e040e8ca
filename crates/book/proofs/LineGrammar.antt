-- Laws of what specs/LineGrammar.antt defines.
use Rattle.std.specs.Prelude.{ℕ, zero, suc, ◌≤◌, ◌≡◌, refl, Bool, true, false, ◌↔◌, eqb, length}
use Rattle.std.proofs.Common.{ap, ap₂, sym, ◌∙◌, subst, arith, length-append}
use mathlib.Core.List.{List, [], ◌∷◌, ◌++◌, append_assoc, append-nil}
use Rattle.automata.specs.Booleans.{choose}
use Rattle.language.specs.Restriction.{RuleKind, restricts, forbids, obliges, Enough}
use Rattle.language.specs.Expression.{Expr}
use Rattle.book.specs.Kind.{kind_of, is_name, sign_byte, equals_kind, greater_kind, slash_kind, underscore_kind, less_kind, caret_kind}
use Rattle.book.specs.Reader.{Read, got, bad, read_choice}
use Rattle.book.specs.Grammar.{Choice, Stops, in_choice}
use Rattle.book.proofs.Grammar.{reader_sound, reader_whole}
use Rattle.book.specs.Text.{Form, define, rule, malformed, tokens, tail_at, on_read, rule_form, contexts_of, define_as, define_of, rule_of, form_of}
use Rattle.book.specs.LineGrammar.{Contexted, Contexts, LineForm, definition, more, none, rule_sign, ruling, squeezed}

-- ---- contexts

abbrev RuleIs : RuleKind → Expr → List (Expr × Expr) → List ℕ → Form → Type 0
RuleIs kind p cs ts (rule k p' cs') = (ds : List (Expr × Expr)) × (kind ≡ k) × (p ≡ p') × (cs ++ ds ≡ cs') × Contexts ts ds × Enough k cs'
RuleIs kind p cs ts (define x e) = ⊥
RuleIs kind p cs ts malformed = Unit {0}

enough_some : (kind : RuleKind) (c : Expr × Expr) (cs : List (Expr × Expr)) → Enough kind (c ∷ cs)
enough_some restricts c cs = tt
enough_some forbids c cs = tt
enough_some obliges c cs = tt

rule_form_sound : (kind : RuleKind) (p : Expr) (cs : List (Expr × Expr)) → RuleIs kind p cs [] (rule_form kind p cs)
rule_form_sound restricts p [] = ([], refl, refl, refl, none refl, tt)
rule_form_sound forbids p [] = tt
rule_form_sound obliges p [] = tt
rule_form_sound kind p (c ∷ cs) = ([], refl, refl, append-nil (c ∷ cs), none refl, enough_some kind c cs)

rule_form_whole : (kind : RuleKind) (p : Expr) (cs : List (Expr × Expr)) → Enough kind cs → rule_form kind p cs ≡ rule kind p cs
rule_form_whole restricts p [] h = refl
rule_form_whole forbids p [] h = absurd h
rule_form_whole obliges p [] h = absurd h
rule_form_whole kind p (c ∷ cs) h = refl

abbrev go_on : RuleKind → ℕ → Expr → List (Expr × Expr) → Expr → List ℕ → Form
go_on kind n p cs l us = tail_at underscore_kind us λ vs. on_read (read_choice vs) λ r ws. contexts_of kind n p (cs ++ ((l, r) ∷ [])) ws

contexts_sound : (kind : RuleKind) (n : ℕ) (p : Expr) (cs : List (Expr × Expr)) (ts : List ℕ) → RuleIs kind p cs ts (contexts_of kind n p cs ts)
contexts_sound kind zero p cs [] = rule_form_sound kind p cs
contexts_sound kind zero p cs (b ∷ ts) = tt
contexts_sound kind (suc n) p cs [] = rule_form_sound kind p cs
contexts_sound kind (suc n) p cs (b ∷ ts) = slash (eqb (kind_of b) slash_kind) refl (λ cs ws. contexts_sound kind n p cs ws)
  where
    Rest : Type 0
    Rest = (cs : List (Expr × Expr)) (ws : List ℕ) → RuleIs kind p cs ws (contexts_of kind n p cs ws)

    last : (l r : Expr) (mid mid' ws : List ℕ) (F : Form) → b ∷ ts ≡ 47 ∷ (mid ++ (95 ∷ (mid' ++ ws))) → Choice mid l → Choice mid' r → RuleIs kind p (cs ++ ((l, r) ∷ [])) ws F → RuleIs kind p cs (b ∷ ts) F
    last l r mid mid' ws (rule k₁ p' cs') q c c' (ds, t, e, f, k, h) = ((l, r) ∷ ds, t, e, sym (append_assoc cs ((l, r) ∷ []) ds) ∙ f, more c c' k q, h)
    last l r mid mid' ws (define x e) q c c' k = k
    last l r mid mid' ws malformed q c c' k = tt

    right : (l : Expr) (mid vs : List ℕ) → b ∷ ts ≡ 47 ∷ (mid ++ (95 ∷ vs)) → Choice mid l → (R : Read) → read_choice vs ≡ R → Rest
        → RuleIs kind p cs (b ∷ ts) (on_read R λ r ws. contexts_of kind n p (cs ++ ((l, r) ∷ [])) ws)
    right l mid vs q c (got r ws) e ih =
        let (mid', q', c') = reader_sound vs ws r e in
        last l r mid mid' ws (contexts_of kind n p (cs ++ ((l, r) ∷ [])) ws) (q ∙ ap (λ x. 47 ∷ (mid ++ (95 ∷ x))) q') c c' (ih (cs ++ ((l, r) ∷ [])) ws)
    right l mid vs q c bad e ih = tt

    under : (l : Expr) (mid us : List ℕ) → b ∷ ts ≡ 47 ∷ (mid ++ us) → Choice mid l → Rest → RuleIs kind p cs (b ∷ ts) (go_on kind n p cs l us)
    under l mid [] q c ih = tt
    under l mid (d ∷ vs) q c ih = test (eqb (kind_of d) underscore_kind) refl
      where
        test : (t : Bool) → eqb (kind_of d) underscore_kind ≡ t → RuleIs kind p cs (b ∷ ts) (choose t (λ _. on_read (read_choice vs) λ r ws. contexts_of kind n p (cs ++ ((l, r) ∷ [])) ws) (λ _. malformed))
        test true e = right l mid vs (q ∙ ap (λ x. 47 ∷ (mid ++ (x ∷ vs))) (sign_byte d 17 e)) c (read_choice vs) refl ih
        test false e = tt

    left : b ≡ 47 → (R : Read) → read_choice ts ≡ R → Rest → RuleIs kind p cs (b ∷ ts) (on_read R λ l us. go_on kind n p cs l us)
    left z (got l us) e ih = let (mid, q, c) = reader_sound ts us l e in under l mid us (ap₂ ◌∷◌ z q) c ih
    left z bad e ih = tt

    slash : (t : Bool) → eqb (kind_of b) slash_kind ≡ t → Rest → RuleIs kind p cs (b ∷ ts) (choose t (λ _. on_read (read_choice ts) λ l us. go_on kind n p cs l us) (λ _. malformed))
    slash true e ih = left (sign_byte b 16 e) (read_choice ts) refl ih
    slash false e ih = tt

contexts_stops : (ts : List ℕ) (cs : List (Expr × Expr)) → Contexts ts cs → Stops in_choice ts
contexts_stops ts cs (none z) = rw z tt
contexts_stops ts cs (more a b c z) = rw z refl

pub contexts_end : (kind : RuleKind) (n : ℕ) (p : Expr) (cs : List (Expr × Expr)) → Enough kind cs → contexts_of kind n p cs [] ≡ rule kind p cs
contexts_end kind zero p cs h = rule_form_whole kind p cs h
contexts_end kind (suc n) p cs h = rule_form_whole kind p cs h

contexts_step : (kind : RuleKind) (n : ℕ) (p : Expr) (cs : List (Expr × Expr)) (ts : List ℕ) (l : Expr) (us : List ℕ) (r : Expr) (vs : List ℕ) → read_choice ts ≡ got l (95 ∷ us) → read_choice us ≡ got r vs
    → contexts_of kind (suc n) p cs (47 ∷ ts) ≡ contexts_of kind n p (cs ++ ((l, r) ∷ [])) vs
contexts_step kind n p cs ts l us r vs e f =
    ap (λ R. on_read R (λ l us. go_on kind n p cs l us)) e ∙ ap (λ R. on_read R (λ r ws. contexts_of kind n p (cs ++ ((l, r) ∷ [])) ws)) f

contexts_whole : (ts : List ℕ) (ds : List (Expr × Expr)) → Contexts ts ds → (kind : RuleKind) (n : ℕ) (p : Expr) (cs : List (Expr × Expr)) → Enough kind (cs ++ ds) → length ts ≤ n → contexts_of kind n p cs ts ≡ rule kind p (cs ++ ds)
contexts_whole ts ds (none z) kind n p cs x h = ap (contexts_of kind n p cs) z ∙ contexts_end kind n p cs (subst (Enough kind) (append-nil cs) x) ∙ ap (rule kind p) (sym (append-nil cs))
contexts_whole ts ds (more {ts = xs} {us = ys} {vs = vs} {l = l} {r = r} {cs = es} a b c z) kind zero p cs x h = absurd (omega (arith, ap length z))
contexts_whole ts ds (more {ts = xs} {us = ys} {vs = vs} {l = l} {r = r} {cs = es} a b c z) kind (suc n) p cs x h =
    ap (contexts_of kind (suc n) p cs) z
    ∙ contexts_step kind n p cs (xs ++ (95 ∷ (ys ++ vs))) l (ys ++ vs) r vs (reader_whole xs l a (95 ∷ (ys ++ vs)) refl) (reader_whole ys r b vs (contexts_stops vs es c))
    ∙ contexts_whole vs es c kind n p (cs ++ ((l, r) ∷ [])) (subst (Enough kind) (sym (append_assoc cs ((l, r) ∷ []) es)) x) (omega (arith, ap length z, length-append xs (95 ∷ (ys ++ vs)), length-append ys vs))
    ∙ ap (rule kind p) (append_assoc cs ((l, r) ∷ []) es)

-- ---- lines

abbrev FormIs : List ℕ → Form → Type 0
FormIs bs (define x e) = LineForm bs (define x e)
FormIs bs (rule kind p cs) = LineForm bs (rule kind p cs)
FormIs bs malformed = Unit {0}

choose_form : (bs : List ℕ) (t : Bool) (f g : Unit {0} → Form) → (t ≡ true → FormIs bs (f tt)) → (t ≡ false → FormIs bs (g tt)) → FormIs bs (choose t f g)
choose_form bs true f g h k = h refl
choose_form bs false f g h k = k refl

define_sound : (ts : List ℕ) → FormIs (61 ∷ ts) (define_of ts)
define_sound [] = tt
define_sound (x ∷ ts) = choose_form (61 ∷ (x ∷ ts)) (is_name x) _ _ (λ q. read q (read_choice ts) refl) (λ q. tt)
  where
    read : is_name x ≡ true → (R : Read) → read_choice ts ≡ R → FormIs (61 ∷ (x ∷ ts)) (on_read R (define_as x))
    read q (got e []) r = let (mid, z, c) = reader_sound ts [] e r in definition q c (ap (λ l. 61 ∷ (x ∷ l)) (z ∙ append-nil mid))
    read q (got e (b ∷ us)) r = tt
    read q bad r = tt

rule_sound : (kind : RuleKind) (ts : List ℕ) → FormIs (rule_sign kind ∷ ts) (rule_of kind ts)
rule_sound kind ts = read (read_choice ts) refl
  where
    read : (R : Read) → read_choice ts ≡ R → FormIs (rule_sign kind ∷ ts) (on_read R (λ p us. contexts_of kind (length us) p [] us))
    read (got p us) r = let (mid, z, c) = reader_sound ts us p r in put mid z c (contexts_of kind (length us) p [] us) (contexts_sound kind (length us) p [] us)
      where
        put : (mid : List ℕ) → ts ≡ mid ++ us → Choice mid p → (F : Form) → RuleIs kind p [] us F → FormIs (rule_sign kind ∷ ts) F
        put mid z c (rule k₁ p' cs') (ds, t, e, f, k, h) = ruling (subst (λ x. Choice mid x) e c) (subst (Contexts us) f k) h (ap₂ (λ k l. rule_sign k ∷ l) t z)
        put mid z c (define x e) k = absurd k
        put mid z c malformed k = tt
    read bad r = tt

form_sound : (bs : List ℕ) → FormIs (squeezed bs) (form_of bs)
unfolding form_of
form_sound [] = tt
form_sound (b ∷ bs) =
    choose_form (b ∷ tokens bs) (eqb (kind_of b) equals_kind) _ _ (λ q. subst (λ x. FormIs (x ∷ tokens bs) (define_of (tokens bs))) (sym (sign_byte b 14 q)) (define_sound (tokens bs))) λ _.
    choose_form (b ∷ tokens bs) (eqb (kind_of b) greater_kind) _ _ (λ q. subst (λ x. FormIs (x ∷ tokens bs) (rule_of restricts (tokens bs))) (sym (sign_byte b 15 q)) (rule_sound restricts (tokens bs))) λ _.
    choose_form (b ∷ tokens bs) (eqb (kind_of b) less_kind) _ _ (λ q. subst (λ x. FormIs (x ∷ tokens bs) (rule_of forbids (tokens bs))) (sym (sign_byte b 18 q)) (rule_sound forbids (tokens bs))) λ _.
    choose_form (b ∷ tokens bs) (eqb (kind_of b) caret_kind) _ _ (λ q. subst (λ x. FormIs (x ∷ tokens bs) (rule_of obliges (tokens bs))) (sym (sign_byte b 19 q)) (rule_sound obliges (tokens bs))) λ _.
    tt

define_whole : (x : ℕ) (ts : List ℕ) (e : Expr) → is_name x ≡ true → Choice ts e → define_of (x ∷ ts) ≡ define x e
define_whole x ts e q c =
    ap (λ t. choose t (λ _. on_read (read_choice ts) (define_as x)) (λ _. malformed)) q
    ∙ ap (λ R. on_read R (define_as x)) (ap read_choice (sym (append-nil ts)) ∙ reader_whole ts e c [] tt)

rule_whole : (kind : RuleKind) (ts us : List ℕ) (p : Expr) (cs : List (Expr × Expr)) → Choice ts p → Contexts us cs → Enough kind cs → rule_of kind (ts ++ us) ≡ rule kind p cs
rule_whole kind ts us p cs c k x =
    ap (λ R. on_read R (λ p us. contexts_of kind (length us) p [] us)) (reader_whole ts p c us (contexts_stops us cs k))
    ∙ contexts_whole us cs k kind (length us) p [] x (omega arith)

cons_parts : (b c : ℕ) (s t : List ℕ) → b ∷ s ≡ c ∷ t → (b ≡ c) × (s ≡ t)
cons_parts b c s t e = (mathlib.Core.List.head-eq_of_cons-eq e, mathlib.Core.List.tail-eq_of_cons-eq e)

-- a line with a rule's sign is a rule of that kind
rule_line : (kind : RuleKind) (b : ℕ) (bs : List ℕ) → b ≡ rule_sign kind → form_of (b ∷ bs) ≡ rule_of kind (tokens bs)
unfolding form_of
rule_line restricts b bs e = rw e
rule_line forbids b bs e = rw e
rule_line obliges b bs e = rw e

-- at most one form is that of a line
pub form_whole : (bs : List ℕ) (F : Form) → LineForm (squeezed bs) F → form_of bs ≡ F
unfolding form_of
form_whole [] F (definition q c z) = absurd (omega (arith, ap length z))
form_whole [] F (ruling c k x z) = absurd (omega (arith, ap length z))
form_whole (b ∷ bs) F (definition {ts = ts} {x = x} {e = e} q c z) =
    let (h, t) = cons_parts b 61 (tokens bs) (x ∷ ts) z in
    rw (h, t) (define_whole x ts e q c)
form_whole (b ∷ bs) F (ruling {ts = ts} {us = us} {kind = kind} {p = p} {cs = cs} c k x z) =
    let (h, t) = cons_parts b (rule_sign kind) (tokens bs) (ts ++ us) z in
    rule_line kind b bs h ∙ ap (rule_of kind) t ∙ rule_whole kind ts us p cs c k x

pub contexts_enough : (bs : List ℕ) → Contexted (form_of bs)
contexts_enough bs = go (form_of bs) (form_sound bs)
  where
    go : (F : Form) → FormIs (squeezed bs) F → Contexted F
    go (define x e) l = tt
    go (rule kind p cs) (ruling c k h z) = h
    go malformed l = tt

-- THE FORMS. A line is read as a definition or a rule exactly when it is of that form.
pub define_exact : (bs : List ℕ) (x : ℕ) (e : Expr) → (form_of bs ≡ define x e) ↔ LineForm (squeezed bs) (define x e)
define_exact bs x e = (λ q. subst (FormIs (squeezed bs)) q (form_sound bs), λ l. form_whole bs (define x e) l)

pub rule_exact : (bs : List ℕ) (kind : RuleKind) (p : Expr) (cs : List (Expr × Expr)) → (form_of bs ≡ rule kind p cs) ↔ LineForm (squeezed bs) (rule kind p cs)
rule_exact bs kind p cs = (λ q. subst (FormIs (squeezed bs)) q (form_sound bs), λ l. form_whole bs (rule kind p cs) l)

-- 5: "the line isn't of its form above"
pub malformed_exact : (bs : List ℕ) → (form_of bs ≡ malformed) ↔ ((F : Form) → LineForm (squeezed bs) F → ⊥)
malformed_exact bs = (to, back)
  where
    to : form_of bs ≡ malformed → (F : Form) → LineForm (squeezed bs) F → ⊥
    to q F (definition {x = x} {e = e} n c z) = let w : ◌≡◌ {A = ℕ} 0 1 = cc (sym (form_whole bs (define x e) (definition n c z)) ∙ q) in omega arith
    to q F (ruling {kind = kind} {p = p} {cs = cs} c k x z) = let w : ◌≡◌ {A = ℕ} 0 1 = cc (sym (form_whole bs (rule kind p cs) (ruling c k x z)) ∙ q) in omega arith

    back : ((F : Form) → LineForm (squeezed bs) F → ⊥) → form_of bs ≡ malformed
    back n = go (form_of bs) (form_sound bs)
      where
        go : (F : Form) → FormIs (squeezed bs) F → F ≡ malformed
        go (define x e) l = absurd (n (define x e) l)
        go (rule kind p cs) l = absurd (n (rule kind p cs) l)
        go malformed l = refl
