-- The slots of a page counted: parts of sums are small, and one slot more.
use Prim.Native.Nat.{ℕ, zero, suc, ◌+◌, ◌-◌, ◌≤◌, ◌<◌}
use mathlib.Core.Path.{◌≡◌, refl, sym, ap, subst, ◌∙◌}
use mathlib.Core.List.{[], ◌∷◌, map}
use mathlib.Core.Bool.{Bool, true, false, cond}
use lib.ListN.{length, get_or, set}
use lib.Seq.{ext_get_or}
use lib.Dec.{eqb}
use native.Mathlib.Numerals.{add-one}
use Rattle.std.proofs.Common.{add-zero}
use native.Mathlib.Omega.{arith}
use borrow.Author.Rules.{rules}
use Rattle.store.specs.Numbers.{sum, zeros, one}
use Rattle.store.specs.Slots.{len, is_record, is_target}
use Rattle.store.specs.Page.{View, fresh}
use Rattle.store.specs.PageSteps.{opened, initialised}
use Rattle.store.specs.Inventory.{class_of}
use Rattle.store.specs.SoundSegment.{nibble_of}
use Rattle.store.specs.Report.{bytes_in, fresh_of, slots_of, records_of, bytes_of, forwarded_of, free_of, classes_from, meanings, added}
use Rattle.store.specs.Answers.{numbers}
use Rattle.store.specs.Laws.Views.{Sound}
use Rattle.store.proofs.Laws.Views.{sum_few, sum_within}
use Rattle.store.specs.declared.Slot.{Slot}
use Rattle.store.specs.declared.Tally.{Tally}
use Rattle.std.specs.Array.{AllOfLen}
use Rattle.fill_report.specs.Words.{Room, WithSlot, SlotsTo, AtMost, class_is, Fills}
use Rattle.fill_report.specs.declared.page.Counts.{Counts}
use Rattle.fill_report.proofs.SumLaws.{class_more}

-- ---- nothing counted yet

abbrev pub nothing : Tally
nothing = record { pages = 0; fresh_pages = 0; slots = 0; records = 0; record_bytes = 0; forwarded = 0; free_bytes = 0; classes = zeros 16 }

zero_at : (n i : ℕ) → get_or (zeros n) i 0 ≡ 0
zero_at zero i = refl
zero_at (suc n) zero = refl
zero_at (suc n) (suc i) = zero_at n i

pub default_is : (t : Tally)
    → (t.pages ≡ 0) × ((t.fresh_pages ≡ 0) × ((t.slots ≡ 0) × ((t.records ≡ 0) × ((t.record_bytes ≡ 0) × ((t.forwarded ≡ 0) × ((t.free_bytes ≡ 0)
    × AllOfLen (λ x. x ≡ 0) t.classes 16))))))
    → t ≡ nothing
default_is t (a, (b, (c, (d, (e, (f, (g, h))))))) =
    let z = ext_get_or 0 t.classes (zeros 16) h.long (λ i l. h.at i 0 (omega (arith, h.long)) ∙ sym (zero_at 16 i)) in
    λ i. record { pages = a i; fresh_pages = b i; slots = c i; records = d i; record_bytes = e i; forwarded = f i; free_bytes = g i; classes = z i }

-- ---- the slots of a sound page

bytes_in_lem : (v : View) (k : ℕ) → bytes_in v k ≤ len (v.at k)
bytes_in_lem v k = go (is_target (v.at k))
  where
    go : (b : Bool) → cond b (len (v.at k) - 8) (len (v.at k)) ≤ len (v.at k)
    go true = omega arith
    go false = omega arith

-- the numbers are small
module _ (v : View) (k : ℕ) {c : Counts} (so_far : SlotsTo v k c) where
  few : (c.records ≤ k) × (c.bytes ≤ sum k (λ j. len (v.at j))) × (c.forwarded ≤ k)
  few =
      let records = sum_few k (λ j. is_record (v.at j)) in
      let bytes = sum_within k k (bytes_in v) (λ j. len (v.at j)) (omega arith) (λ j l. bytes_in_lem v j) in
      let targets = sum_few k (λ j. is_target (v.at j)) in
      (omega arith, omega arith, omega arith)

  -- and one slot more
  module _ {s : Slot} (is : s ≡ v.at k) where
    pub room : Sound v → k < v.slot_count → Room c s
    room sound h =
        let small = few in
        let part = sum_within v.slot_count (suc k) (λ j. len (v.at j)) (λ j. len (v.at j)) h (λ j l. omega arith) in
        rw is (record { records = omega arith; forwarded = omega arith; bytes = omega arith; target = sound.targets k })

    pub with_next : {r : Counts} → WithSlot c s r → SlotsTo v (k + 1) r
    with_next w = let next = rw is at w in rw add-one (search rules)

-- ---- a page: fresh, or in use

-- one class of sixteen
class_most : (m c k : ℕ) → AtMost 65536 (class_is m c k)
class_most zero c k = tt
class_most (suc m) c k = (small (eqb k c), class_most m (c + 1) k)
  where
    small : (b : Bool) → one b ≤ 65536
    small true = omega arith
    small false = omega arith

class_figures : (v : View) (m c k : ℕ) → k ≡ nibble_of v → class_is m c k ≡ map (λ g. g v) (classes_from m c)
class_figures v zero c k e = refl
class_figures v (suc m) c k e = rw e (ap (λ l. one (eqb (nibble_of v) c) ∷ l) (rw (sym e) (class_figures v m (c + 1) k e)))

-- the page's figures one by one, each small, added to those of t
module _ (v : View) {a b c d e f k : ℕ} (fresh : a ≡ fresh_of v) (slots : b ≡ slots_of v) (records : c ≡ records_of v) (bytes : d ≡ bytes_of v)
    (forwarded : e ≡ forwarded_of v) (free : f ≡ free_of v) (class : k ≡ nibble_of v) (small : AtMost 65536 (a ∷ b ∷ c ∷ d ∷ e ∷ f ∷ [])) where
  one_by_one : 1 ∷ a ∷ b ∷ c ∷ d ∷ e ∷ f ∷ class_is 16 0 k ≡ map (λ g. g v) meanings
  one_by_one =
      rw (fresh, slots, records, bytes, forwarded, free)
      (ap (λ l. 1 ∷ fresh_of v ∷ slots_of v ∷ records_of v ∷ bytes_of v ∷ forwarded_of v ∷ free_of v ∷ l) (class_figures v 16 0 k class))

  fills : (t : Tally) → length t.classes ≡ 16
      → Fills v t
      (record {
        pages = t.pages + 1;
        fresh_pages = t.fresh_pages + a;
        slots = t.slots + b;
        records = t.records + c;
        record_bytes = t.record_bytes + d;
        forwarded = t.forwarded + e;
        free_bytes = t.free_bytes + f;
        classes = set t.classes k (get_or t.classes k 0 + 1);
      })
  fills t n =
      record {
        figures = rw (class_more t.classes k n) (ap (added (numbers t)) one_by_one);
        small = let s = small in
            subst (AtMost 65536) one_by_one (omega arith, (s.0, (s.1.0, (s.1.1.0, (s.1.1.1.0, (s.1.1.1.1.0, (s.1.1.1.1.1.0, class_most 16 0 k)))))));
      }

pub fills_fresh : (v : View) → fresh v ≡ true → (t : Tally) → length t.classes ≡ 16
    → Fills (opened v) t
    (record t { pages = t.pages + 1; fresh_pages = t.fresh_pages + 1; classes = set t.classes 0 (get_or t.classes 0 0 + 1) })
fills_fresh v f t n =
    rw f
    (simp add-zero at (fills initialised {a = 1} {b = 0} {c = 0} {d = 0} {e = 0} {f = 0} {k = 0} refl refl refl refl refl refl refl (search rules) t n))

-- what its slots count for is small
pub slots_small : (v : View) (sound : Sound v) {n : ℕ} {c : Counts} → n ≡ v.slot_count → SlotsTo v n c
    → (c.records ≤ 65536) × (c.bytes ≤ 65536) × (c.forwarded ≤ 65536)
slots_small v sound count slots = let small = few v v.slot_count (rw count at slots) in (omega arith, omega arith, omega arith)

module _ (v : View) (f : fresh v ≡ false) (sound : Sound v) {n free class : ℕ} {c : Counts} (count : n ≡ v.slot_count) (slots : SlotsTo v n c)
    (space : free ≡ v.free_space) (of : class ≡ class_of (16372 - free)) where
  pub fills_used : (t : Tally) → length t.classes ≡ 16
      → Fills (opened v) t
      (record {
        pages = t.pages + 1;
        fresh_pages = t.fresh_pages;
        slots = t.slots + n;
        records = t.records + c.records;
        record_bytes = t.record_bytes + c.bytes;
        forwarded = t.forwarded + c.forwarded;
        free_bytes = t.free_bytes + free;
        classes = set t.classes class (get_or t.classes class 0 + 1);
      })
  fills_used t m =
      let all = rw count at slots in
      let small = few v v.slot_count all in
      let class_is : class ≡ nibble_of v = rw (f, ← space) of in
      rw f
      (simp add-zero at (fills v {a = 0} {f = free} (rw f refl) count all.records all.bytes all.forwarded (rw f space) class_is (search rules) t m))
