use mathlib.Core.Path.{◌≡◌, ap, ◌∙◌}
use mathlib.Core.List.{List}
use Prim.Native.Nat.{ℕ, ◌+◌, ◌-◌}
use native.Mathlib.Omega.{arith}
use lib.ListN.{length}
use borrow.Rule.Slice.PartMut.{put_mid}
use Rattle.std.specs.Int.{w64, from_be_bytes}
use Rattle.store.specs.Numbers.{cut, be, zeros}
use Rattle.store.proofs.Laws.Numbers.{be_less, bytes_all, bytes_cut}
use Rattle.store.proofs.Laws.Writes.{length_cut}
use Rattle.layout.proofs.Numbers.{from_be}
use Rattle.layout.proofs.read.Goals as goal

pub returns : goal.returns
returns g c =
    let n = g.row.N in
    let a = c.args in
    let e : a.at + n - a.at ≡ n = omega arith in
    let bytes : List ℕ = cut a.page.now a.at n in
    let l : length bytes ≡ n = length_cut a.page.now a.at n (omega arith) in
    let copied : c.copy_from_slice.new.self ≡ bytes = c.copy_from_slice.ensures.after ∙ ap (cut a.page.now a.at) e in
    let is : c.from_be_bytes.result ≡ be bytes =
    c.from_be_bytes.ensures ∙ ap (λ (q : List ℕ). from_be_bytes w64 (put_mid (8 - n) (8 - (8 - n)) (zeros 8) q)) copied
    ∙ from_be n bytes (omega arith) l in
    record { is = is; small = omega (arith, is, rw l at (be_less bytes (bytes_cut a.page.now a.at n (bytes_all a.page.now (λ i. (c.type_inv.page i).fits))))) }
