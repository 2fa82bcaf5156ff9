use Prim.Native.Nat.{ℕ, ◌+◌, ◌-◌}
use mathlib.Core.Path.{◌≡◌, ap, ◌∙◌}
use mathlib.Core.List.{List}
use native.Mathlib.Omega.{arith}
use lib.ListN.{length, length-set}
use Rattle.store.specs.Numbers.{cut, put, to_be}
use Rattle.store.proofs.Laws.Writes.{length_cut}
use Rattle.store.proofs.Laws.Numbers.{bytes_all}
use Rattle.exchange.proofs.Laws.Parse.{number_back}
use Rattle.exchange.proofs.WriteLaws.{reading_written}
use Rattle.exchange.proofs.write.write_reading.Goals.{After-put_u16, After-put_u64}
use Rattle.exchange.proofs.write.write_reading.Goals as goal

-- the place stays as long as it was
headed_long : (c : After-put_u64) → length c.put_u64.new.page ≡ length c.args.file.now
headed_long c = c.put_u64.auto.page ∙ simp length-set

sized_long : (c : After-put_u16) → length c.put_u16.new.page ≡ length c.args.file.now
sized_long c = c.put_u16.auto.page ∙ headed_long (goal.at.After-put_u16 c).After-put_u64

pub bounds-file-at-2 : goal.bounds-file-at-2
bounds-file-at-2 c = simp length-set (omega arith)

pub put_u64-requires : goal.put_u64-requires
put_u64-requires c = simp length-set (omega arith)

pub put_u16-requires : goal.put_u16-requires
put_u16-requires c = omega (arith, headed_long (goal.at.put_u16-requires c).After-put_u64)

-- the data is a part of the page
data_is : (o n : ℕ) (p : List ℕ) → cut p (o + 8) (o + n - (o + 8)) ≡ cut p (o + 8) (n - 8)
data_is o n p = let e : o + n - (o + 8) ≡ n - 8 = omega arith in ap (cut p (o + 8)) e

pub copy_in-requires : goal.copy_in-requires
copy_in-requires c =
    let a = c.args in
    omega (arith, sized_long (goal.at.copy_in-requires c).After-put_u16, length_cut a.page.now (a.offset + 8) (a.offset + a.n - (a.offset + 8)) (omega arith))

pub shape_of-file : goal.shape_of-file
shape_of-file c = c.copy_in.auto.page ∙ sized_long (goal.at.shape_of-file c).After-put_u16

pub returns : goal.returns
returns c =
    let a = c.args in
    let pre = c.requires.reads in
    let p = a.page.now in
    let tail = cut p (a.offset + 8) (a.offset + a.n - (a.offset + 8)) in
    let number = c.get_u64.ensures in
    c.copy_in.ensures ∙ ap (λ (f : List ℕ). put f (a.at + 12) tail) c.put_u16.ensures
    ∙ ap (λ (f : List ℕ). put (put f (a.at + 10) (to_be 2 (a.n - 8))) (a.at + 12) tail) c.put_u64.ensures
    ∙ reading_written p a.offset a.n pre.headed pre.within a.file.now a.at _ tail
    (number_back p (bytes_all p (λ i. omega (arith, c.type_inv.page))) a.offset _ (omega arith) number.is number.small)
    (data_is a.offset a.n p)
