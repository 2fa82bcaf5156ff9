-- The figure of a class stands at its place.
use Rattle.std.specs.Prelude.{ℕ, zero, suc, ◌+◌, ◌<◌, ◌≡◌, map, get_or}
use Rattle.std.proofs.Common.{ap, ◌∙◌, arith}
use Rattle.store.specs.Page.{View}
use Rattle.store.specs.Segment.{SegView}
use Rattle.store.specs.Report.{of_class, classes_from, over, figures_to}
use Rattle.store.specs.ReportTold.{class_at}

classes_at : (g : (View → ℕ) → ℕ) (m c j : ℕ) → j < m → get_or (map g (classes_from m c)) j 0 ≡ g (of_class (c + j))
classes_at g zero c j l = absurd (omega arith)
classes_at g (suc m) c zero l = let e : c ≡ c + 0 = omega arith in ap (λ (k : ℕ). g (of_class k)) e
classes_at g (suc m) c (suc j) l =
    let e : c + 1 + j ≡ c + suc j = omega arith in
    classes_at g m (c + 1) j (omega arith) ∙ ap (λ (k : ℕ). g (of_class k)) e

pub class_figure : (u : SegView) (n c : ℕ) → c < 16 → class_at c (figures_to u n) ≡ over u n (of_class c)
unfolding figures_to
class_figure u n c l =
    let a : 7 + c ≡ suc (suc (suc (suc (suc (suc (suc c)))))) = omega arith in
    let b : 0 + c ≡ c = omega arith in
    rw a (classes_at (over u n) 16 0 c l ∙ ap (λ (k : ℕ). over u n (of_class k)) b)
