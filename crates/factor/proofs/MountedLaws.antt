-- The search on boards that were mounted before W2: 21 where the card has no letters, and on every other card the answer of today's boards.
use Rattle.std.specs.Prelude.{◌≡◌, not, List, ℕ, ◌≤◌, eqb}
use Rattle.std.proofs.Common.{ap}
use Rattle.std.proofs.Math.Path.{fun_ext}
use Rattle.automata.specs.Decide.{any_below, unless}
use Rattle.automata.specs.Format.{narrow}
use Rattle.card.specs.Layout.{letter_count, state_count, mark_at, letters_of}
use Rattle.card.specs.Reply.{refused, asked}
use Rattle.card.specs.Mounted.{mounted}
use Rattle.card.proofs.Mounted.{mounted_refuses, same_test, state_same}
use Rattle.factor.specs.Shortest.{lies_inside, shortest}

pub mounted_finds_none : (c : List ℕ) → letter_count narrow c ≡ 0 → (plan : List ℕ) → shortest mounted c plan ≡ refused 21 0
unfolding shortest asked unless
mounted_finds_none c e plan = rw (mounted_refuses c e)

inside_same : (c : List ℕ) → lies_inside mounted c ≡ lies_inside narrow c
unfolding lies_inside
inside_same c = fun_ext (λ s. ap (λ f. any_below f (state_count narrow c)) (fun_ext (λ p. ap (λ q. not (eqb (mark_at narrow c q) 2)) (state_same c s p))))

pub mounted_finds : (c : List ℕ) → 1 ≤ letter_count narrow c → (plan : List ℕ) → shortest mounted c plan ≡ shortest narrow c plan
unfolding shortest asked letters_of
mounted_finds c h plan = rw (same_test c h, inside_same c)
