-- What each stage accepts: the operation on its operands' sets. For machines of any size and any limits.
use Rattle.std.specs.Prelude.{◌≡◌, refl, true, ◌↔◌, List, [], ◌∷◌, ◌++◌, ℕ, suc}
use Rattle.std.proofs.Math.Path.{sym, ap₂}
use Rattle.std.proofs.Common.{ap, ◌∙◌}
use Rattle.automata.specs.Format.{Format}
use Rattle.automata.specs.Booleans.{bool_iff}
use Rattle.automata.specs.Automaton.{Over, over_parts, over_more, accepts}
use Rattle.automata.specs.Machine.{Machine, automaton, Canonical}
use Rattle.automata.specs.Flags.{flags_test}
use Rattle.automata.specs.Subset.{subset}
use Rattle.automata.specs.Operations.{product, pair_test, concat_NFA, star_NFA, Each as EachOf, erase_NFA}
use Rattle.automata.proofs.Operations.{product_accept, concat_accept, star_accept, erase_accept, erase_letters}
use Rattle.automata.specs.Stage.{Smallest, Keeps}
use Rattle.automata.proofs.Stage.{stage_keeps}
use Rattle.automata.specs.Stages.{Pairing, either, both, without, combine, pair_stage, concat_stage, star_stage, erase_stage}
use Rattle.language.specs.Cuts.{Word}
use Rattle.language.specs.Language.{Language, union, intersection, difference, concatenation, concatenation_sound, concatenation_whole, star, star_sound, star_whole, in_row, Each}
use Rattle.language.specs.Marked.{Erased}
use Rattle.language.specs.Recognizes.{Recognizes, smallest_recognizes}

-- "`A|B` either, `A&B` both, `A-B` in A and not in B."
abbrev pub combined : Pairing → Language → Language → Language
combined either A B = union A B
combined both A B = intersection A B
combined without A B = difference A B

-- ---- what the kept machines accept

module _ (fmt : Format) (k : ℕ) where
  combine_combined : (o : Pairing) (A B : Language) (w : Word) → combine o (A w) (B w) ≡ combined o A B w
  combine_combined either A B w = refl
  combine_combined both A B w = refl
  combine_combined without A B w = refl

  pub pair_stage_lem : (o : Pairing) (A B : Machine) (L L' : Language) → Recognizes k A L → Recognizes k B L'
      → Keeps (λ M. Recognizes k M (combined o L L')) (pair_stage fmt k o A B)
  unfolding pair_stage
  pair_stage_lem o A B L L' r r' =
      stage_keeps pair_test fmt k (product (combine o) A B) (λ M. Recognizes k M (combined o L L'))
      (λ M s. smallest_recognizes k (product (combine o) A B) M (combined o L L')
      (λ w v. product_accept (combine o) A B w ∙ ap₂ (combine o) (r.exact w v) (r'.exact w v) ∙ combine_combined o L L' w) s)

  concat_accepts : (A B : Machine) (L L' : Language) → Recognizes k A L → Recognizes k B L' → (w : Word) → Over k w → accepts (subset (concat_NFA A B)) w ≡ concatenation L L' w
  concat_accepts A B L L' r r' w o = bool_iff (accepts (subset (concat_NFA A B)) w) (concatenation L L' w) to back
    where
      to : accepts (subset (concat_NFA A B)) w ≡ true → concatenation L L' w ≡ true
      to e =
          let (u, v, q, s, t) = (concat_accept k A B r.canonical.formed r'.canonical.formed w o).0 e in
          let (a, b) = over_parts k u v (rw q at o) in
          rw q (concatenation_whole L L' u v (sym (r.exact u a) ∙ s) (sym (r'.exact v b) ∙ t))

      back : concatenation L L' w ≡ true → accepts (subset (concat_NFA A B)) w ≡ true
      back e =
          let (u, v, q, s, t) = concatenation_sound L L' w e in
          let (a, b) = over_parts k u v (rw q at o) in
          (concat_accept k A B r.canonical.formed r'.canonical.formed w o).1 (u, v, q, r.exact u a ∙ s, r'.exact v b ∙ t)

  pub concat_stage_lem : (A B : Machine) (L L' : Language) → Recognizes k A L → Recognizes k B L'
      → Keeps (λ M. Recognizes k M (concatenation L L')) (concat_stage fmt k A B)
  unfolding concat_stage
  concat_stage_lem A B L L' r r' =
      stage_keeps flags_test fmt k (subset (concat_NFA A B)) (λ M. Recognizes k M (concatenation L L'))
      (λ M s. smallest_recognizes k (subset (concat_NFA A B)) M (concatenation L L') (concat_accepts A B L L' r r') s)

  star_accepts : (A : Machine) (L : Language) → Recognizes k A L → (w : Word) → Over k w → accepts (subset (star_NFA A)) w ≡ star L w
  star_accepts A L r w o = bool_iff (accepts (subset (star_NFA A)) w) (star L w) to back
    where
      rows : (us : List Word) → Rattle.automata.specs.Operations.in_row us ≡ in_row us
      rows [] = refl
      rows (u ∷ us) = ap (λ l. u ++ l) (rows us)

      each : (us : List Word) → Over k (in_row us) → EachOf A us → Each L us
      each [] v a = tt
      each (u ∷ us) v a = let (x, y) = over_parts k u (in_row us) v in (sym (r.exact u x) ∙ a.0, each us y a.1)

      each' : (us : List Word) → Over k (in_row us) → Each L us → EachOf A us
      each' [] v a = tt
      each' (u ∷ us) v a = let (x, y) = over_parts k u (in_row us) v in (r.exact u x ∙ a.0, each' us y a.1)

      to : accepts (subset (star_NFA A)) w ≡ true → star L w ≡ true
      to e =
          let (us, q, a) = (star_accept k A r.canonical.formed w o).0 e in
          let q' : w ≡ in_row us = q ∙ rows us in
          rw q' (star_whole L us (each us (rw q' at o) a))

      back : star L w ≡ true → accepts (subset (star_NFA A)) w ≡ true
      back e =
          let (us, q, a) = star_sound L w e in
          (star_accept k A r.canonical.formed w o).1 (us, q ∙ sym (rows us), each' us (rw q at o) a)

  pub star_stage_lem : (A : Machine) (L : Language) → Recognizes k A L → Keeps (λ M. Recognizes k M (star L)) (star_stage fmt k A)
  unfolding star_stage
  star_stage_lem A L r =
      stage_keeps flags_test fmt k (subset (star_NFA A)) (λ M. Recognizes k M (star L))
      (λ M s. smallest_recognizes k (subset (star_NFA A)) M (star L) (star_accepts A L r) s)

-- A machine that accepts the words of letters that are U's, less their marks, and no word with a mark.
pub record Erases (m : ℕ) (E : Machine) (U : Language) : Type 0 where
  pub canonical : Canonical (suc m) E
  pub letters : (w : Word) → Over (suc m) w → accepts (automaton E) w ≡ true → Over m w
  pub exact : (w : Word) → Over m w → (accepts (automaton E) w ≡ true) ↔ Erased m U w

module _ (fmt : Format) (m : ℕ) where
  pub erase_stage_lem : (A : Machine) (U : Language) → Recognizes (suc m) A U → Keeps (λ E. Erases m E U) (erase_stage fmt m A)
  unfolding erase_stage
  erase_stage_lem A U r = stage_keeps flags_test fmt (suc m) (subset (erase_NFA m A)) (λ E. Erases m E U) erases
    where
      erases : (E : Machine) → Smallest (suc m) (subset (erase_NFA m A)) E → Erases m E U
      erases E s = record {
        canonical = s.canonical;
        letters = λ w o e. erase_letters m A r.canonical.formed w o (s.words w o ∙ e);
        exact = λ w o. (
          λ e. let (u, v, q, t) = (erase_accept m A r.canonical.formed w o).0 (s.words w (over_more m w o) ∙ e) in (u, v, q, sym (r.exact u v) ∙ t),
          λ (u, v, q, t). sym (s.words w (over_more m w o)) ∙ (erase_accept m A r.canonical.formed w o).1 (u, v, q, r.exact u v ∙ t),
        );
      }
