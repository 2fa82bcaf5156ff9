-- Laws of writes, the store's `put`, by which the loops of the leaves turn.
use Rattle.std.specs.Prelude.{◌≡◌, List, [], ◌∷◌, ◌++◌, ℕ, zero, suc, ◌+◌, ◌-◌, ◌≤◌, ◌<◌, length, get_or, take, drop, set}
use Rattle.std.proofs.Common.{sym, ap, ◌∙◌, append_assoc, inl, inr, add-zero, add-suc, add-one, arith, length-drop, length-append, take-suc, drop-cons}
use Rattle.std.proofs.Common.{get_or-take, get_or-drop, length-take-le, take_at}
use Rattle.std.proofs.lemmas.List.{length-replicate, replicate-append-replicate}
use Rattle.store.specs.Numbers.{cut, put, zeros}
use Rattle.store.proofs.Laws.Numbers.{put_set, set_put, put_nil, put_parts, put_swap, get_d_put}

-- two runs, one after the other
pub write_append : (at : ℕ) (v w p : List ℕ) → put p at (v ++ w) ≡ put (put p at v) (at + length v) w
write_append at [] w p = rw (add-zero, put_nil p at)
write_append at (b ∷ v) w p =
    put_set p at b (v ++ w) ∙ write_append (suc at) v w (set p at b)
    ∙ ap (λ (k : ℕ). put (put (set p at b) (suc at) v) k w) (omega arith) ∙ ap (λ (q : List ℕ). put q (at + length (b ∷ v)) w) (sym (put_set p at b v))

-- one byte more, behind
pub write_snoc : (at b : ℕ) (v p : List ℕ) → set (put p at v) (at + length v) b ≡ put p at (v ++ b ∷ [])
write_snoc at b v p = set_put (put p at v) (at + length v) b ∙ sym (write_append at v (b ∷ []) p)

-- a byte before the run
pub write_set_before : (at i b : ℕ) (v p : List ℕ) → i < at → put (set p i b) at v ≡ set (put p at v) i b
write_set_before at i b v p h =
    ap (λ (q : List ℕ). put q at v) (set_put p i b) ∙ sym (put_swap p i at (b ∷ []) v (omega arith)) ∙ sym (set_put (put p at v) i b)

-- the list up to the end of the run that was written
pub take_write : (at n : ℕ) (v p : List ℕ) → at + length v ≡ n → n ≤ length p → take n (put p at v) ≡ take at p ++ v
take_write at n v p e h =
    rw (put_parts p at v (omega arith), ← append_assoc (take at p) v (drop (at + length v) p))
    (take_at (take at p ++ v) (drop (at + length v) p) n (simp (length-append, length-take-le at p (omega arith)) (omega arith)))

-- ---- the bytes of a run

pub length_cut : (p : List ℕ) (at n : ℕ) → at + n ≤ length p → length (cut p at n) ≡ n
length_cut p at n h = length-take-le n (drop at p) (rw length-drop (omega arith))

get_d_cut : (p : List ℕ) (at n j : ℕ) → j < n → get_or (cut p at n) j 0 ≡ get_or p (at + j) 0
get_d_cut p at n j h = rw (get_or-take, get_or-drop)

-- one byte more
pub cut_snoc : (p : List ℕ) (at k b : ℕ) → b ≡ get_or p (at + k) 0 → at + k < length p → cut p at (k + 1) ≡ cut p at k ++ b ∷ []
cut_snoc p at k b e h =
    let l : k < length (drop at p) = rw length-drop (omega arith) in
    rw (add-one, take-suc (drop at p) k 0, get_or-drop, e)

-- ---- turns of the loops

-- that clears
pub cleared_more : (at j : ℕ) (p : List ℕ) → set (put p at (zeros j)) (at + j) 0 ≡ put p at (zeros (j + 1))
cleared_more at j p =
    ap (λ (k : ℕ). set (put p at (zeros j)) (at + k) 0) (sym (length-replicate j 0)) ∙ write_snoc at 0 (zeros j) p
    ∙ ap (put p at) (replicate-append-replicate j 1 0)

-- that copies forwards
write_take_more : (at j : ℕ) (s p : List ℕ) → j < length s → set (put p at (take j s)) (at + j) (get_or s j 0) ≡ put p at (take (j + 1) s)
write_take_more at j s p h =
    let e : length (take j s) ≡ j = length-take-le j s (omega arith) in
    ap (λ (k : ℕ). set (put p at (take j s)) (at + k) (get_or s j 0)) (sym e)
    ∙ write_snoc at (get_or s j 0) (take j s) p
    ∙ rw (add-one, take-suc s j 0)

-- that copies backwards
write_drop_more : (at j : ℕ) (s p : List ℕ) → j < length s → set (put p (at + suc j) (drop (suc j) s)) (at + j) (get_or s j 0) ≡ put p (at + j) (drop j s)
write_drop_more at j s p h =
    sym (write_set_before (at + suc j) (at + j) (get_or s j 0) (drop (suc j) s) p (omega arith))
    ∙ rw (drop-cons s j 0, put_set, add-suc)

-- that moves a run within the page: what is read there has not been written yet
pub move_down_more : (from n to j : ℕ) (p : List ℕ) → to ≤ from → from + n ≤ length p → j < n
    → set (put p to (take j (cut p from n))) (to + j) (get_or (put p to (take j (cut p from n))) (from + j) 0) ≡ put p to (take (j + 1) (cut p from n))
move_down_more from n to j p h k l =
    let e : length (cut p from n) ≡ n = length_cut p from n k in
    let f : length (take j (cut p from n)) ≡ j = length-take-le j (cut p from n) (omega arith) in
    ap (set (put p to (take j (cut p from n))) (to + j))
    (get_d_put p to (take j (cut p from n)) (from + j) (inr (omega arith)) ∙ sym (get_d_cut p from n j l))
    ∙ write_take_more to j (cut p from n) p (omega arith)

pub move_up_more : (from n to j : ℕ) (p : List ℕ) → from ≤ to → to + n ≤ length p → j ≤ n → 0 < j
    → set (put p (to + j) (drop j (cut p from n))) (to + (j - 1)) (get_or (put p (to + j) (drop j (cut p from n))) (from + (j - 1)) 0)
    ≡ put p (to + (j - 1)) (drop (j - 1) (cut p from n))
move_up_more from n to zero p h k l z = absurd (omega arith)
move_up_more from n to (suc j) p h k l z =
    let o : suc j - 1 ≡ j = omega arith in
    let e : length (cut p from n) ≡ n = length_cut p from n (omega arith) in
    rw o (ap (set (put p (to + suc j) (drop (suc j) (cut p from n))) (to + j))
    (get_d_put p (to + suc j) (drop (suc j) (cut p from n)) (from + j) (inl (omega arith)) ∙ sym (get_d_cut p from n j l))
    ∙ write_drop_more to j (cut p from n) p (omega arith))
