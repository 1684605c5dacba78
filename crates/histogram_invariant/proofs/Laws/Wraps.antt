-- No count of four bytes wraps while all together are few.
use Prim.Native.Nat.{ℕ, suc, ◌+◌, ◌<◌}
use Rattle.std.specs.Prelude.{◌≡◌, length}
use Rattle.std.proofs.Math.Path.{refl}
use Rattle.std.proofs.Common.{◌∙◌, arith}
use mathlib.Core.List.{List, [], ◌∷◌}
use Rattle.rules_histogram.specs.Limits.{bucket_count}
use Rattle.rules_histogram.specs.Histograms.{wrapping, add_load, add_loads}
use Rattle.histogram_invariant.proofs.Laws.Loads.{total, load-length, load-total, load_wraps}

pub loads_wrap : (loads counts : List ℕ) → length counts ≡ bucket_count → total counts + length loads < 4294967296
    → add_loads wrapping counts loads ≡ add_loads suc counts loads
unfolding add_loads
loads_wrap [] counts size few = refl
loads_wrap (load ∷ loads) counts size few =
    let next = add_load suc counts load in
    rw (load_wraps counts load size (omega arith))
    (loads_wrap loads next (load-length suc counts load ∙ size) (omega (arith, load-total counts load size)))
