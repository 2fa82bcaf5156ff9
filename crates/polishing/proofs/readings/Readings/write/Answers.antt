use Prim.Native.Nat.{ℕ, suc, ◌+◌, ◌≤◌, ◌<◌}
use mathlib.Core.Path.{◌≡◌, sym, ap, ◌∙◌}
use mathlib.Core.Bool.{Bool}
use mathlib.Core.List.{List}
use native.Mathlib.Omega.{arith}
use native.Mathlib.Numerals.{add-one}
use lib.ListN.{drop, set, length-set, drop_of_length-le}
use Rattle.store.specs.Numbers.{put}
use Rattle.store.proofs.Laws.Numbers.{put_nil, put_set}
use Rattle.polishing.specs.Polishing.{words, word}
use Rattle.polishing.proofs.Laws.Listed.{length_words, words_next}
use Rattle.polishing.proofs.readings.Readings.write.Goals as goal

-- one word more is written, and nothing is left
put_next : (p : List ℕ) (w : ℕ → Bool) (i : ℕ) → i < 1024 → (x : ℕ) → x ≡ word w i
    → put p i (drop i (words w)) ≡ put (set p i x) (i + 1) (drop (i + 1) (words w))
put_next p w i l x e = rw (add-one, words_next w i l, e) (put_set p i (word w i) (drop (suc i) (words w)))

put_none : (p : List ℕ) (w : ℕ → Bool) (i : ℕ) → 1024 ≤ i → put p i (drop i (words w)) ≡ p
put_none p w i l = ap (put p i) (drop_of_length-le (words w) {i = i} (omega (arith, length_words w))) ∙ put_nil p i

pub loop-w-preserved : goal.loop-w-preserved
loop-w-preserved c =
    let t = c.loop-w in (
      length-set t.place t.w c.word.result ∙ t.invariant.0,
      sym (put_next t.place _ t.w (omega arith) c.word.result c.word.ensures) ∙ t.invariant.1,
    )

pub returns : goal.returns
returns c =
    let t = c.loop-w in
    sym (put_none t.place _ t.w (omega arith)) ∙ t.invariant.1
