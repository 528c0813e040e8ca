-- Laws of what specs/Reply.antt defines.
use Rattle.std.specs.Prelude.{◌≡◌, true, ◌⊎◌, List, ℕ, length}
use Rattle.std.proofs.Common.{sym, ap, ◌∙◌, inl, inr, arith}
use Rattle.std.proofs.Math.Bool.{false}
use Rattle.std.proofs.Math.Dec.{eqb}
use Rattle.automata.specs.Booleans.{bool_cases}
use Rattle.automata.specs.Basics.{LtCases, lt_cases, nat_test}
use Rattle.automata.specs.Decide.{unless, unless_elim, contradict}
use Rattle.automata.specs.Format.{Format}
use Rattle.card.specs.Layout.{letters_of}
use Rattle.card.specs.Alphabet.{Known, known_count, Counted, all_known, first_unknown}
use Rattle.card.proofs.Alphabet.{counted, known_at}
use Rattle.card.specs.Load.{load_test}
use Rattle.card.proofs.LoadLaws.{tested, tested_only}
use Rattle.card.proofs.Allowed.{count_known}
use Rattle.card.specs.Reply.{Replies, Reply, answered, asked, is_answered, map_reply, no_card, refused, unknown_letter}

module _ {A : Type 0} (fmt : Format) (c plan : List ℕ) (Right : A → Type 0) where
  -- THE REPLY is right where the answer is,
  pub asked_replies : (a : A) → (load_test fmt c ≡ 0 → Known (letters_of fmt c) plan → Right a) → Replies fmt c plan Right (asked fmt c plan a)
  unfolding asked
  asked_replies a f =
      unless_elim (Replies fmt c plan Right) (refused (load_test fmt c) 0) (eqb (load_test fmt c) 0) _
      (λ e. no_card (load_test fmt c) (λ z. contradict (rw z (nat_test.whole 0)) e) (tested fmt c)) λ e₁.
      let z : load_test fmt c ≡ 0 = nat_test.sound (load_test fmt c) 0 e₁ in
      unless_elim (Replies fmt c plan Right) (refused 27 (known_count (letters_of fmt c) plan)) (eqb (known_count (letters_of fmt c) plan) (length plan)) _
      (λ e. unknown_at z (known_count (letters_of fmt c) plan) e (counted (letters_of fmt c) plan)) λ e₂.
      let o : Known (letters_of fmt c) plan = count_known (letters_of fmt c) plan (nat_test.sound (known_count (letters_of fmt c) plan) (length plan) e₂) in
      is_answered z o a (f z o)
    where
      unknown_at : load_test fmt c ≡ 0 → (n : ℕ) → eqb n (length plan) ≡ false → Counted (letters_of fmt c) plan n → Replies fmt c plan Right (refused 27 n)
      unknown_at z n e (all_known o) = contradict (nat_test.whole (length plan)) e
      unknown_at z n e (first_unknown j b f x) = unknown_letter z j b f x

  -- and one reply at most, where one answer at most is.
  pub replies_one : ((a b : A) → Right a → Right b → a ≡ b) → (r r' : Reply A) → Replies fmt c plan Right r → Replies fmt c plan Right r' → r ≡ r'
  replies_one one r r' (no_card v n t) (no_card v' n' t') = ap (λ v. refused v 0) (sym (tested_only fmt c v t) ∙ tested_only fmt c v' t')
  replies_one one r r' (no_card v n t) (unknown_letter z j b f x) = absurd (n (sym (tested_only fmt c v t) ∙ z))
  replies_one one r r' (no_card v n t) (is_answered z o a s) = absurd (n (sym (tested_only fmt c v t) ∙ z))
  replies_one one r r' (unknown_letter z j b f x) (no_card v n t) = absurd (n (sym (tested_only fmt c v t) ∙ z))
  replies_one one r r' (unknown_letter z j b f x) (unknown_letter z' j' b' f' x') = ap (refused 27) (at (lt_cases j j') (lt_cases j' j))
    where
      at : LtCases j j' → LtCases j' j → j ≡ j'
      at (inl p) q = let y = f' j p.0 in absurd (omega arith)
      at (inr p) (inl q) = let y = f j' q.0 in absurd (omega arith)
      at (inr p) (inr q) = omega arith
  replies_one one r r' (unknown_letter z j b f x) (is_answered z' o a s) = let y = known_at (letters_of fmt c) plan o j b in absurd (omega arith)
  replies_one one r r' (is_answered z o a s) (no_card v n t) = absurd (n (sym (tested_only fmt c v t) ∙ z))
  replies_one one r r' (is_answered z o a s) (unknown_letter z' j b f x) = let y = known_at (letters_of fmt c) plan o j b in absurd (omega arith)
  replies_one one r r' (is_answered z o a s) (is_answered z' o' a' s') = ap answered (one a a' s s')

  -- On a loaded card and a plan of its letters the reply a says that a is right.
  pub reply_right : load_test fmt c ≡ 0 → Known (letters_of fmt c) plan → (a : A) (r : Reply A) → r ≡ answered a → Replies fmt c plan Right r → Right a
  reply_right z o a r e (no_card w n t) = absurd (n (sym (tested_only fmt c w t) ∙ z))
  reply_right z o a r e (unknown_letter y j b f x) = let k = known_at (letters_of fmt c) plan o j b in absurd (omega arith)
  reply_right z o a r e (is_answered y k b s) = let q : b ≡ a = cc in rw q at s

module _ {A B : Type 0} (fmt : Format) (c plan : List ℕ) where
  -- The tests are the same whatever is asked: another answer in its place,
  pub asked_map : (f : A → B) (a : A) → asked fmt c plan (f a) ≡ map_reply f (asked fmt c plan a)
  unfolding asked unless
  asked_map f a = go (bool_cases (eqb (load_test fmt c) 0)) (bool_cases (eqb (known_count (letters_of fmt c) plan) (length plan)))
    where
      go : (eqb (load_test fmt c) 0 ≡ true) ⊎ (eqb (load_test fmt c) 0 ≡ false)
          → (eqb (known_count (letters_of fmt c) plan) (length plan) ≡ true) ⊎ (eqb (known_count (letters_of fmt c) plan) (length plan) ≡ false)
          → asked fmt c plan (f a) ≡ map_reply f (asked fmt c plan a)
      go (inr e) k = rw e
      go (inl e) (inr k) = rw (e, k)
      go (inl e) (inl k) = rw (e, k)

  -- and A REFUSAL comes exactly where it comes for another answer, with the same numbers.
  pub refused_alike : (a : A) (b : B) (number before : ℕ) → asked fmt c plan a ≡ refused number before → asked fmt c plan b ≡ refused number before
  refused_alike a b number before e = asked_map (λ _. b) a ∙ ap (map_reply (λ _. b)) e
