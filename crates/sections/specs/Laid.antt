-- A part of a list is overwritten: what stands before it and behind it stays.
use Rattle.std.specs.Prelude.{◌≡◌, List, ◌++◌, ℕ, length, take, drop}

-- From place `from` up to place `to` the list holds x; all else is as it was.
pub record Laid (from to : ℕ) (x old new : List ℕ) : Type 0 where
  pub long : length new ≡ length old
  pub begins : take to new ≡ take from old ++ x
  pub rest : drop to new ≡ drop to old
