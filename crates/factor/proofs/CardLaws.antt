-- On a card that loads the test of a factor is exact; so the reply is right, for every row of bytes as card and every plan, and one reply only is.
use Rattle.std.specs.Prelude.{◌≡◌, false, not, ◌↔◌, ◌≢◌, List, [], ◌++◌, length, take, drop, eqb}
use Rattle.std.proofs.Math.Path.{refl}
use Rattle.std.proofs.Common.{sym, ap, ◌∙◌, append-nil, append_assoc, take-append-drop}
use Rattle.std.proofs.Math.Bool.{true}
use Prim.Native.Nat.{ℕ, zero, ◌<◌}
use Rattle.automata.specs.Booleans.{not_true}
use Rattle.automata.specs.Basics.{nat_test}
use Rattle.automata.specs.Automaton.{Over, run, run_append, Reachable}
use Rattle.automata.specs.Machine.{Machine, automaton, access, run_inside}
use Rattle.automata.specs.Decide.{contradict, any_below_lem, below_any}
use Rattle.automata.specs.Format.{Format}
use Rattle.card.specs.Mark.{Mark, is_accepting, is_dead, is_live}
use Rattle.card.specs.Layout.{letter_count, state_count, mark_at, letters_of, machine_of}
use Rattle.card.proofs.LayoutLaws.{letters_length, size_is}
use Rattle.card.specs.Alphabet.{columns, spell, Known}
use Rattle.card.proofs.Alphabet.{columns_append, columns_spell, known_left, known_append}
use Rattle.card.specs.Load.{load_test}
use Rattle.card.specs.Loads.{Loaded}
use Rattle.card.proofs.Loads.{load_loaded, loaded_formed}
use Rattle.card.proofs.Allowed.{allows_iff, allows_word, known_right}
use Rattle.card.specs.Verdict.{Verdict, hopeless, Says, is_allowed, is_unfinished, is_hopeless}
use Rattle.card.specs.Reply.{Reply, answered, refused, is_answered}
use Rattle.card.proofs.Reply.{asked_replies, replies_one, reply_right, refused_alike}
use Rattle.card.specs.Judge.{state_after, plan_verdict, card_allows, judge}
use Rattle.card.proofs.JudgeLaws.{judge_iff}
use Rattle.card.proofs.RunLaws.{state_machine}
use Rattle.factor.specs.Factor.{factor, Inside, Shortest, none, at, Blames}
use Rattle.factor.proofs.Factor.{blames_one, blames_none, nothing_empty}
use Rattle.factor.specs.Shortest.{lies_inside, shortest_by, shortest, Searches}
use Rattle.factor.proofs.ShortestLaws.{failed, shortest_blames}

-- A factor of known letters has known letters.
pub known_factor : (fmt : Format) (c plan : List ℕ) (i k : ℕ) → Known (letters_of fmt c) plan → Known (letters_of fmt c) (factor plan i k)
known_factor fmt c plan i k o =
    let d : Known (letters_of fmt c) (drop i plan) = known_right (letters_of fmt c) (machine_of fmt c) (take i plan) (drop i plan) (rw (take-append-drop i plan) o) in
    known_left (letters_of fmt c) (factor plan i k) (drop k (drop i plan)) (rw (take-append-drop k (drop i plan)) d)

module _ (fmt : Format) (c : List ℕ) (l : Loaded fmt c) where
  abbrev ls : List ℕ
  ls = letters_of fmt c

  abbrev M : Machine
  M = machine_of fmt c

  width : length ls ≡ letter_count fmt c
  width = letters_length fmt c l.contents

  -- the state after s from state p, by the machine
  along : (s : List ℕ) (p : ℕ) → p < state_count fmt c → Known ls s → state_after fmt c s p ≡ run (automaton M) p (columns ls s)
  along s p h o = state_machine fmt c l s p h o

  within : (s : List ℕ) (p : ℕ) → p < state_count fmt c → Known ls s → run (automaton M) p (columns ls s) < state_count fmt c
  within s p h o = rw (← size_is fmt c l.contents) (run_inside (letter_count fmt c) M (loaded_formed fmt c l) p (columns ls s) (rw (size_is fmt c l.contents) h) (rw (← width) o))

  -- A factor lies inside some allowed plan exactly when it leads some state to one that is not dead: every state is reached, so what is behind a state
  -- ends an allowed plan.
  pub inside_exact : (s : List ℕ) → Known ls s → (lies_inside fmt c s ≡ true) ↔ Inside (card_allows fmt c) s
  unfolding lies_inside
  inside_exact s o = (to, back)
    where
      to : lies_inside fmt c s ≡ true → Inside (card_allows fmt c) s
      to e = go (mark_at fmt c q) refl (l.marked q (within s p h o))
        where
          p : ℕ
          p = (any_below_lem _ (state_count fmt c) e).0

          h : p < state_count fmt c
          h = (any_below_lem _ (state_count fmt c) e).1

          q : ℕ
          q = run (automaton M) p (columns ls s)

          alive : eqb (mark_at fmt c q) 2 ≡ false
          alive = failed (eqb (mark_at fmt c q) 2) (rw (along s p h o) at (any_below_lem _ (state_count fmt c) e).2)

          -- the letters that lead from the start to p
          r : Reachable (letter_count fmt c) (automaton M) p
          r = access (letter_count fmt c) M l.numbered p (rw (size_is fmt c l.contents) h)

          u : List ℕ
          u = spell ls r.0

          spelt : columns ls u ≡ r.0
          spelt = columns_spell ls l.alphabet r.0 (rw width r.1)

          us : Known ls (u ++ s)
          us = known_append ls u s (rw (spelt, width) r.1) o

          arrives : run (automaton M) zero (columns ls (u ++ s)) ≡ q
          arrives = ap (run (automaton M) zero) (columns_append ls u s) ∙ run_append (automaton M) zero (columns ls u) (columns ls s)
              ∙ ap (λ x. run (automaton M) x (columns ls s)) (ap (run (automaton M) zero) spelt ∙ r.2)

          -- a word that is accepted from q ends an allowed plan with s inside
          ends : (w : List ℕ) → Over (letter_count fmt c) w → (automaton M).accepting (run (automaton M) q w) ≡ true → Inside (card_allows fmt c) s
          ends w x t = (
            u,
            spell ls w,
            ap (card_allows fmt c) (sym (append_assoc u s (spell ls w)))
                ∙ allows_word ls M l.alphabet (u ++ s) us w (rw width x) (rw arrives t),
          )

          go : (v : ℕ) → mark_at fmt c q ≡ v → Mark (letter_count fmt c) M q v → Inside (card_allows fmt c) s
          go v z (is_accepting f) = ends [] tt f
          go v z (is_dead d) = contradict (nat_test.whole 2) (rw z at alive)
          go v z (is_live f w x t) = ends w x t

      back : Inside (card_allows fmt c) s → lies_inside fmt c s ≡ true
      back (u, v, e) = below_any _ (state_count fmt c) p h (rw (along s p h o) (go (mark_at fmt c q) (l.marked q (within s p h o))))
        where
          known : Known ls (u ++ (s ++ v))
          known = ((allows_iff ls M (u ++ (s ++ v))).0 e).0

          ku : Known ls u
          ku = known_left ls u (s ++ v) known

          p : ℕ
          p = run (automaton M) zero (columns ls u)

          h : p < state_count fmt c
          h = within u zero l.contents.states_some ku

          q : ℕ
          q = run (automaton M) p (columns ls s)

          kv : Known ls v
          kv = known_right ls M s v (known_right ls M u (s ++ v) known)

          accepted : (automaton M).accepting (run (automaton M) q (columns ls v)) ≡ true
          accepted = ap (automaton M).accepting (sym (run_append (automaton M) p (columns ls s) (columns ls v))
              ∙ ap (run (automaton M) p) (sym (columns_append ls s v))
              ∙ sym (run_append (automaton M) zero (columns ls u) (columns ls (s ++ v)))
              ∙ ap (run (automaton M) zero) (sym (columns_append ls u (s ++ v))))
              ∙ ((allows_iff ls M (u ++ (s ++ v))).0 e).1

          go : (m : ℕ) → Mark (letter_count fmt c) M q m → not (eqb m 2) ≡ true
          go m (is_accepting f) = refl
          go m (is_dead d) = contradict accepted (d (columns ls v) (rw (← width) kv))
          go m (is_live f w x t) = refl

  -- Inside where s leads some state to one that is not dead; outside where it leads every state to a dead one.
  pub inside_from : (s : List ℕ) → Known ls s → (p : ℕ) → p < state_count fmt c → mark_at fmt c (state_after fmt c s p) ≢ 2 → Inside (card_allows fmt c) s
  unfolding lies_inside
  inside_from s o p h f = (inside_exact s o).0
      (below_any _ (state_count fmt c) p h (rw (not_true (eqb (mark_at fmt c (state_after fmt c s p)) 2) (λ t. f (nat_test.sound (mark_at fmt c (state_after fmt c s p)) 2 t)))))

  pub outside_dead : (s : List ℕ) → Known ls s → ((p : ℕ) → p < state_count fmt c → mark_at fmt c (state_after fmt c s p) ≡ 2) → ¬ Inside (card_allows fmt c) s
  unfolding lies_inside
  outside_dead s o f e =
      let (p, h, t) = any_below_lem _ (state_count fmt c) ((inside_exact s o).1 e) in
      contradict (rw (f p h) (nat_test.whole 2)) (failed (eqb (mark_at fmt c (state_after fmt c s p)) 2) t)

  -- THE ANSWER of a loaded card on a plan of its letters is the right one.
  pub loaded_blames : (plan : List ℕ) → Known ls plan → Blames (card_allows fmt c) plan (shortest_by (lies_inside fmt c) plan)
  loaded_blames plan o = shortest_blames (lies_inside fmt c) (card_allows fmt c) plan (λ i k h. inside_exact (factor plan i k) (known_factor fmt c plan i k o))

-- ---- every reply

-- THE SEARCH replies so,
pub replies : (fmt : Format) (c plan : List ℕ) → Searches fmt c plan (shortest fmt c plan)
unfolding shortest
replies fmt c plan = asked_replies fmt c plan (Blames (card_allows fmt c) plan) (shortest_by (lies_inside fmt c) plan) (λ z o. loaded_blames fmt c (load_loaded fmt c z) plan o)

-- and one reply only is right.
pub replies_only : (fmt : Format) (c plan : List ℕ) (r : Reply Shortest) → Searches fmt c plan r → shortest fmt c plan ≡ r
replies_only fmt c plan r a =
    replies_one fmt c plan (Blames (card_allows fmt c) plan) (blames_one (card_allows fmt c) plan) (shortest fmt c plan) r (replies fmt c plan) a

-- A REFUSAL comes exactly where judging has it, with the same numbers.
pub refused_as_judging : (fmt : Format) (c plan : List ℕ) (number before : ℕ) → (shortest fmt c plan ≡ refused number before) ↔ (judge fmt c plan ≡ refused number before)
unfolding shortest judge
refused_as_judging fmt c plan number before = (
  refused_alike fmt c plan (shortest_by (lies_inside fmt c) plan) (plan_verdict fmt c plan) number before,
  refused_alike fmt c plan (plan_verdict fmt c plan) (shortest_by (lies_inside fmt c) plan) number before,
)

module _ (fmt : Format) (c plan : List ℕ) (z : load_test fmt c ≡ 0) (o : Known (letters_of fmt c) plan) where
  -- On a loaded card and a plan of its letters the reply is r just when r is the right answer,
  pub shortest_iff : (r : Shortest) → (shortest fmt c plan ≡ answered r) ↔ Blames (card_allows fmt c) plan r
  shortest_iff r = (
    λ e. reply_right fmt c plan (Blames (card_allows fmt c) plan) z o r (shortest fmt c plan) e (replies fmt c plan),
    λ s. replies_only fmt c plan (answered r) (is_answered z o r s),
  )

  -- NONE EXACTLY WHEN the whole plan lies inside some allowed plan,
  pub none_iff : (shortest fmt c plan ≡ answered none) ↔ Inside (card_allows fmt c) plan
  none_iff = (
    λ e. (blames_none (card_allows fmt c) plan).0 ((shortest_iff none).0 e),
    λ s. (shortest_iff none).1 ((blames_none (card_allows fmt c) plan).1 s),
  )

  -- so where judging says allowed or unfinished: the plan then begins an allowed one,
  pub judged_none : (v : Verdict) → judge fmt c plan ≡ answered v → ((k : ℕ) → v ≢ hopeless k) → shortest fmt c plan ≡ answered none
  judged_none v e f = none_iff.1 (go v f ((judge_iff fmt c plan v z o).0 e))
    where
      go : (v : Verdict) → ((k : ℕ) → v ≢ hopeless k) → Says (card_allows fmt c) plan v → Inside (card_allows fmt c) plan
      go v f (is_allowed t) = ([], [], ap (card_allows fmt c) (append-nil plan) ∙ t)
      go v f (is_unfinished n rest t l) = ([], rest, t)
      go v f (is_hopeless k h n g) = absurd (f k refl)

  -- and on a card that allows nothing THE EMPTY STRETCH AT PLACE 0.
  pub nothing_allowed : ((w : List ℕ) → card_allows fmt c w ≡ false) → shortest fmt c plan ≡ answered (at 0 0)
  nothing_allowed f = (shortest_iff (at 0 0)).1 (nothing_empty (card_allows fmt c) plan f)
