-- A step that waits, and what it waits for.
use Prim.Native.Nat.{ℕ, ◌<◌}
use Rattle.std.specs.Prelude.{◌≡◌, length}
use Rattle.std.proofs.Math.Bool.{true, false}
use mathlib.Core.List.{List}
use Rattle.rules.specs.Tree.{kind_at, is_finish, cont}
use Rattle.rules.specs.Scheduling.{Entry, has_run}

-- Step i follows the finish child that step `opener` opens, and of the steps between them `unrun` has not run.
pub record Blocked (ks : List ℕ) (log : List Entry) (i : ℕ) : Type 0 where
  pub opener : ℕ
  pub within : opener < length ks
  pub finish : is_finish (kind_at ks opener) ≡ true
  pub follows : i ≡ cont ks opener
  pub unrun : ℕ
  pub past : opener < unrun
  pub before : unrun < i
  pub not_yet : has_run log unrun ≡ false
