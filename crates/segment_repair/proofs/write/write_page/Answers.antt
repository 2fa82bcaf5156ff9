use Prim.Native.Nat.{ℕ}
use mathlib.Core.Path.{ap, sym, ◌∙◌}
use mathlib.Core.List.{List}
use Rattle.store.specs.Page.{view, fresh}
use Rattle.store.specs.Repair.{lost}
use Rattle.segment_repair.proofs.CountLaws.{used_page}
use Rattle.segment_repair.proofs.WriteLaws.{written_fresh}
use Rattle.segment_repair.proofs.write.write_page.Goals as goal

pub write_lost-requires : goal.write_lost-requires
write_lost-requires c =
    let l = ap (λ (q : List ℕ). lost (view q)) (sym c.page_of.ensures) ∙ c.in-Lost.ensures in
    record { within = (c.requires.known.1, l); p_in_bounds = c.requires.p_in_bounds }

pub returns-in-Fresh : goal.returns-in-Fresh
returns-in-Fresh c =
    let f = ap (λ (q : List ℕ). fresh (view q)) (sym c.page_of.ensures) ∙ c.in-Fresh.ensures in
    written_fresh c.args.segment.now c.args.p c.requires.known.1 f c.args.entries.now c.args.at

pub write_used-requires : goal.write_used-requires
write_used-requires c =
    record {
      known = (c.requires.known.0, used_page c.args.segment.now c.page_of.ensures c.requires.known.1 c.in-Used.slots c.in-Used.ensures);
      p_in_bounds = c.requires.p_in_bounds;
    }
