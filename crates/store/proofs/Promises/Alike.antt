-- Demand 3: erased bytes stay unseen. Two sound segments that are alike in the paper's words (`Alike`), with equal inventories: the same calls
-- with the same data give equal answers, ids, refusals, record bytes and scans, and leave the two alike in the same words.
use Rattle.std.specs.Prelude.{ℕ, ◌/◌, ◌%◌, ◌≡◌, true, cond, ◌&&◌, List, [], ◌∷◌, length, leb, eqb}
use Rattle.std.proofs.Common.{sym, ap, ◌∙◌, subst}
use Rattle.store.specs.Numbers.{page_no, slot_no}
use Rattle.store.specs.Page.{view, sound}
use Rattle.store.specs.Inventory.{Truth}
use Rattle.store.specs.Segment.{SegView, seg_view, page_of, size_ok, part_by, no_part, locate_step}
use Rattle.store.specs.Records.{scan_all}
use Rattle.store.specs.Calls.{Call, called, results}
use Rattle.store.specs.Alike.{Alike, AlikeByKind, AlikeToRead, Same, AllSame}
use Rattle.store.specs.SoundSegment.{Paired, classes, SoundSegment}
use Rattle.store.proofs.Laws.SoundPage.{sound_test}
use Rattle.store.proofs.Laws.SoundSegment.{sound_closed, seen_sound, seen_page, sized, row_of, call_staying}
use Rattle.store.proofs.Laws.Plans.{plan_of, called_plan, call_exacting}
use Rattle.store.proofs.Laws.Alike.{alike_seen, plan_like}
use Rattle.store.proofs.Promises.Sound.{call_right}
use Rattle.store.proofs.Promises.AlikeByKind.{same_call, read_same, scan_same, scan_all_same}

-- of two such segments, with one inventory, both are sound
pub like_sound : (s t v : List ℕ) → SoundSegment s v → Alike s t → SoundSegment t v
like_sound s t v h l =
    let a = alike_seen s t (sized s h.whole) l in
    let n : length s / 16384 ≡ length t / 16384 = ap (λ (m : ℕ). m / 16384) l.long in
    record {
      whole = ap (λ (m : ℕ). eqb (m % 16384) 0 && leb (m / 16384) 32527) (sym l.long) ∙ h.whole;
      page = h.page;
      pages = λ p k.
          sound_closed (view (page_of t p))
          (ap sound (sym (seen_page t p) ∙ ap (λ (u : SegView). u.page p) (sym a.seen)) ∙ sound_test ((seg_view s).page p) ((seen_sound s v h).sounds p));
      pairs = subst Paired a.seen h.pairs;
      inventory = subst (λ (m : ℕ). Truth (classes (seg_view t)) m v) n
          (subst (λ (u : SegView). Truth (classes u) (length s / 16384) v) a.seen h.inventory);
    }

-- a call
pub call_alike : (c : Call) (s t v : List ℕ) → SoundSegment s v → Alike s t → Same Alike (called c s v) (called c t v)
call_alike c s t v h l =
    let y = same_call c s t v (alike_seen s t (sized s h.whole) l) in
    record {
      answer = y.answer;
      id = y.id;
      inv = y.inv;
      seg = rw (called_plan c s v, called_plan c t v) (plan_like (plan_of c v) (row_of c) s t v (call_exacting c v) (call_staying c v) h l);
    }

-- reads, the places of what they read, and scans
locate_same : (s t : List ℕ) → AlikeByKind s t → (i : ℕ) → locate_step s i ≡ locate_step t i
unfolding locate_step
locate_same s t a i =
    let r = read_same s t a i in
    λ x. record { answer = (r x).answer; part = cond (eqb (r x).answer 0) (part_by (a.seen x) i (((a.seen x).page (page_no i)).at (slot_no i))) no_part }

pub read_alike : (s t v : List ℕ) → SoundSegment s v → Alike s t → AlikeToRead s t
read_alike s t v h l =
    let a = alike_seen s t (sized s h.whole) l in
    record { alike = l; reads = λ i. read_same s t a i; places = λ i. locate_same s t a i; scans = λ p k. scan_same s t a p k }

-- the whole scan's list, of right size
pub scan_all_alike : (s t : List ℕ) → size_ok s ≡ true → Alike s t → scan_all s ≡ scan_all t
scan_all_alike s t e l = scan_all_same s t (alike_seen s t (sized s e) l)

-- any sequence of calls, and every read and scan between them
pub demand_3 : (cs : List Call) (s t v w : List ℕ) → SoundSegment s v → Alike s t → v ≡ w → AllSame AlikeToRead (results cs s v) (results cs t w)
demand_3 [] s t v w h l e = tt
demand_3 (c ∷ cs) s t v w h l e =
    let y = call_alike c s t v h l in
    let sound = (call_right c s v h).sound in
    subst (λ (x : List ℕ). AllSame AlikeToRead (results (c ∷ cs) s v) (results (c ∷ cs) t x)) e (
      record { answer = y.answer; id = y.id; inv = y.inv; seg = read_alike (called c s v).seg (called c t v).seg (called c s v).inv sound y.seg },
      demand_3 cs (called c s v).seg (called c t v).seg (called c s v).inv (called c t v).inv sound y.seg y.inv,
    )
