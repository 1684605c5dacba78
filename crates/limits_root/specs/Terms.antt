-- The words of the contracts: a number in two digits, a square root beside what its square leaves, the root of a root.
use Rattle.std.specs.Prelude.{ℕ, ◌+◌, ◌*◌, ◌≤◌, ◌<◌, ◌≡◌}
use Rattle.limits_root.specs.declared.Wide.{Wide}
use Rattle.limits_root.specs.declared.Root.{Root}
use Rattle.limits_root.specs.declared.Roots.{Roots}

-- What the low digit of a number is below.
abbrev pub base : ℕ
base = 17592186044416

-- The number that two digits stand for.
abbrev pub value : Wide → ℕ
value a = a.high * base + a.low

-- The number that a root and its rest are of.
unfoldable pub number : Root → ℕ
number r = value r.root * value r.root + value r.rest

-- The root is that of its number, rounded down: the square of one more takes twice the root and 1, which the rest does not have.
pub record Rounded (r : Root) : Type 0 where
  pub digits : (r.root.low < base) × (r.rest.low < base)
  pub less : value r.rest ≤ 2 * value r.root

-- The root of the number with two more binary digits, `pair`. It has one more.
pub record Extended (r : Root) (pair : ℕ) (longer : Root) : Type 0 where
  pub rounded : Rounded longer
  pub whole : number longer ≡ 4 * number r + pair
  pub digit : (2 * value r.root ≤ value longer.root) × (value longer.root ≤ 2 * value r.root + 1)

-- The square root of a number, and the square root of that.
pub record Fourth (roots : Roots) : Type 0 where
  pub square : Rounded roots.square
  pub fourth : Rounded roots.fourth
  pub whole : number roots.fourth ≡ value roots.square.root
