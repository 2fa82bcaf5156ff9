-- A run is written in parts: the next part behind what stands there, and the last one over some of it.
use Prim.Native.Nat.{ℕ, ◌+◌, ◌-◌, ◌≤◌, min}
use mathlib.Core.Path.{◌≡◌, sym, ap, ◌∙◌}
use mathlib.Core.List.{List, ◌++◌}
use native.Mathlib.Omega.{arith}
use native.Mathlib.Nat.{min-eq_left, min-eq_right}
use native.Mathlib.Decide.{dec_le}
use lib.ListN.{length, take, drop}
use lib.Seq.{take-length, take-add, take_all, length-take-le}
use borrow.Rule.Slice.PartMut.{put_mid}
use Rattle.std.specs.List.{copy_within}
use Rattle.std.proofs.lemmas.List.{append_assoc}
use Rattle.store.specs.Numbers.{cut, put, zeros, fit}
use Rattle.store.proofs.Laws.Numbers.{put_over, lent, put_parts}
use Rattle.store.proofs.Laws.Writes.{write_append, length_cut}

-- n bytes lent on from `at`, and what stands in them when they come back
pub part : (p vs : List ℕ) (at n : ℕ) → length vs ≡ n → at + n ≤ length p → put_mid at (at + n - at) p vs ≡ put p at vs
part p vs at n e h = lent p at (at + n) vs (omega arith) h (omega arith)

-- n bytes moved within p, as the library says it
pub moved : (p : List ℕ) (from n to : ℕ) → from + n ≤ length p → to + n ≤ length p → copy_within p from (from + n) to ≡ put p to (cut p from n)
moved p from n to f t =
    let e : from + n - from ≡ n = omega arith in
    let l : length (cut p from n) ≡ n = length_cut p from n f in
    rw (e, append_assoc) (sym (put_parts p to (cut p from n) (omega arith) ∙ ap (λ (m : ℕ). take to p ++ (cut p from n ++ drop (to + m) p)) l))

next : (p s : List ℕ) (at k e : ℕ) → k ≤ e → e ≤ length s → put (put p at (take k s)) (at + k) (cut s k (e - k)) ≡ put p at (take e s)
next p s at k e l h =
    let a : length (take k s) ≡ k = length-take-le k s (omega arith) in
    let b : k + (e - k) ≡ e = omega arith in
    ap (λ (n : ℕ). put (put p at (take k s)) (at + n) (cut s k (e - k))) (sym a)
    ∙ sym (write_append at (take k s) (cut s k (e - k)) p)
    ∙ ap (put p at) (sym (take-add k (e - k) s) ∙ ap (λ (n : ℕ). take n s) b)

-- q has the first k bytes of s from `at` on
module _ (p s q : List ℕ) (at k : ℕ) (stand : q ≡ put p at (take k s)) where
  -- and the next ones, up to e
  pub part_next : (e : ℕ) → k ≤ e → e ≤ length s → put q (at + k) (cut s k (e - k)) ≡ put p at (take e s)
  part_next e l h = ap (λ (r : List ℕ). put r (at + k) (cut s k (e - k))) stand ∙ next p s at k e l h

  -- and the last ones, from l on, over some that stand there
  pub part_last : (l : ℕ) → l ≤ k → k ≤ length s → put q (at + l) (cut s l (length s - l)) ≡ put p at s
  part_last l h m =
      let a = length_cut s l (k - l) (omega arith) in
      let b = length_cut s l (length s - l) (omega arith) in
      ap (λ (r : List ℕ). put r (at + l) (cut s l (length s - l))) (stand ∙ sym (next p s at l k h m))
      ∙ put_over (put p at (take l s)) (at + l) (cut s l (k - l)) (cut s l (length s - l)) (omega arith)
      ∙ next p s at l (length s) (omega arith) (omega arith)
      ∙ rw take-length

-- bytes at another size: the first of them, as many as both lengths allow, and zeros behind
fit_parts : (n : ℕ) (s : List ℕ) → fit n s ≡ take (min n (length s)) s ++ zeros (n - min n (length s))
fit_parts n s = go (dec_le n (length s))
  where
    go : Dec (n ≤ length s) → fit n s ≡ take (min n (length s)) s ++ zeros (n - min n (length s))
    go (yes h) = let z : n - length s ≡ n - n = omega arith in rw (min-eq_left h) (ap (λ (k : ℕ). take n s ++ zeros k) z)
    go (no h) =
        let g : length s ≤ n = omega arith in
        rw (min-eq_right g) (ap (λ (q : List ℕ). q ++ zeros (n - length s)) (take_all n s g ∙ sym (take-length s)))

pub fit_put : (p s : List ℕ) (at n : ℕ)
    → put (put p at (take (min n (length s)) s)) (at + min n (length s)) (zeros (n - min n (length s))) ≡ put p at (fit n s)
fit_put p s at n =
    let m = min n (length s) in
    let l : length (take m s) ≡ m = length-take-le m s (omega arith) in
    ap (λ (k : ℕ). put (put p at (take m s)) (at + k) (zeros (n - m))) (sym l)
    ∙ sym (write_append at (take m s) (zeros (n - m)) p) ∙ ap (put p at) (sym (fit_parts n s))
