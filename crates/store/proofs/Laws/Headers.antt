-- A page's header, by its four numbers and by its 12 bytes.
use Rattle.std.specs.Prelude.{ℕ, ◌+◌, ◌≤◌, ◌≡◌, Bool, true, ◌&&◌, List, ◌++◌, length, drop, eqb}
use Rattle.std.proofs.Common.{sym, ap, ◌∙◌, arith, eqb-true}
use Rattle.store.specs.Numbers.{cut, Bytes, be}
use Rattle.store.specs.Page.{View, view, header_is}
use Rattle.store.proofs.Laws.Numbers.{bytes_take, bytes_drop, be_same, cut_add}
use Rattle.store.proofs.Laws.Writes.{length_cut}
use Rattle.store.proofs.Laws.SoundPage.{and_both, header_is_lem}
use Rattle.store.proofs.Laws.Alike.{part_like}

record Says (v : View) (c f d n : ℕ) : Type 0 where
  slot_count : v.slot_count ≡ c
  first_free : v.first_free ≡ f
  data_start : v.data_start ≡ d
  free_space : v.free_space ≡ n

header_says : (v : View) (c f d n : ℕ) → header_is v c f d n ≡ true → Says v c f d n
header_says v c f d n e =
    let a = and_both (eqb v.slot_count c) (eqb v.first_free f && (eqb v.data_start d && eqb v.free_space n)) e in
    let b = and_both (eqb v.first_free f) (eqb v.data_start d && eqb v.free_space n) a.1 in
    let g = and_both (eqb v.data_start d) (eqb v.free_space n) b.1 in
    record {
      slot_count = eqb-true v.slot_count c a.0;
      first_free = eqb-true v.first_free f b.0;
      data_start = eqb-true v.data_start d g.0;
      free_space = eqb-true v.free_space n g.1;
    }

-- the header of p has the four numbers of h
abbrev pub like : List ℕ → List ℕ → Bool
like p h = header_is (view p) (be (cut h 0 2)) (be (cut h 2 2)) (be (cut h 4 4)) (be (cut h 8 4))

-- it has them exactly if the 12 bytes are the same
pub same_numbers : (p h : List ℕ) → cut p 0 12 ≡ cut h 0 12 → like p h ≡ true
unfolding view
same_numbers p h e = header_is_lem (view p) (be (cut h 0 2)) (be (cut h 2 2)) (be (cut h 4 4)) (be (cut h 8 4))
    (ap be (part_like p h 0 2 (omega arith) e)) (ap be (part_like p h 2 2 (omega arith) e)) (ap be (part_like p h 4 4 (omega arith) e))
    (ap be (part_like p h 8 4 (omega arith) e))

pub same_bytes_lem : (p h : List ℕ) → 12 ≤ length p → 12 ≤ length h → Bytes p → Bytes h → like p h ≡ true → cut p 0 12 ≡ cut h 0 12
unfolding view
same_bytes_lem p h l m b c e =
    cut_add p 0 2 10 ∙ (λ i. part 0 2 (omega arith) n.slot_count i ++ from_2 i) ∙ sym (cut_add h 0 2 10)
  where
    n : Says (view p) (be (cut h 0 2)) (be (cut h 2 2)) (be (cut h 4 4)) (be (cut h 8 4))
    n = header_says (view p) (be (cut h 0 2)) (be (cut h 2 2)) (be (cut h 4 4)) (be (cut h 8 4)) e

    part : (i n : ℕ) → i + n ≤ 12 → be (cut p i n) ≡ be (cut h i n) → cut p i n ≡ cut h i n
    part i n d = be_same (cut p i n) (cut h i n) (length_cut p i n (omega arith) ∙ sym (length_cut h i n (omega arith)))
        (bytes_take n (drop i p) (bytes_drop i p b)) (bytes_take n (drop i h) (bytes_drop i h c))

    from_4 : cut p 4 8 ≡ cut h 4 8
    from_4 = cut_add p 4 4 4 ∙ (λ i. part 4 4 (omega arith) n.data_start i ++ part 8 4 (omega arith) n.free_space i) ∙ sym (cut_add h 4 4 4)

    from_2 : cut p 2 10 ≡ cut h 2 10
    from_2 = cut_add p 2 2 8 ∙ (λ i. part 2 2 (omega arith) n.first_free i ++ from_4 i) ∙ sym (cut_add h 2 2 8)
