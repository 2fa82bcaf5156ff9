-- Document 02, Ask 3, over a page's bytes: what a fresh page's header is, and that no other page with count 0 is sound.
use Rattle.std.specs.Prelude.{ℕ, ◌+◌, ◌*◌, ◌^◌, ◌≤◌, ◌<◌, ◌≡◌, refl, Bool, true, false, ◌||◌, List, [], ◌∷◌, ◌++◌, map, ◌⊎◌, length}
use Rattle.std.proofs.Common.{sym, ◌∙◌, inl, inr, arith}
use Rattle.std.proofs.Math.Decide.{dec_lt}
use Rattle.store.specs.Numbers.{cut, zeros, Bytes}
use Rattle.store.specs.Page.{view, count, fresh, sound}
use Rattle.store.specs.Alike.{AlikePage, both_fresh}
use Rattle.store.proofs.Laws.Cases.{never, or_in, or_out}
use Rattle.store.proofs.Laws.Numbers.{bytes_to_be}
use Rattle.store.proofs.Laws.SoundPage.{sound_none, sound_page}
use Rattle.store.proofs.Laws.Headers.{like, same_numbers, same_bytes_lem}

-- "its 12 header bytes are all zero or are exactly the initialised header", which is P1's
abbrev pub initial_header : List ℕ
initial_header = 0 ∷ 0 ∷ 0 ∷ 0 ∷ 0 ∷ 0 ∷ 64 ∷ 0 ∷ 0 ∷ 0 ∷ 63 ∷ 244 ∷ []

abbrev pub FreshHeader : List ℕ → Type 0
FreshHeader p = (cut p 0 12 ≡ zeros 12) ⊎ (cut p 0 12 ≡ initial_header)

pub header_fresh : (p : List ℕ) → FreshHeader p → fresh (view p) ≡ true
header_fresh p (inl e) = or_in (like p (zeros 12)) (like p initial_header) (same_numbers p (zeros 12) e)
header_fresh p (inr e) = or_out (like p (zeros 12)) (like p initial_header) (same_numbers p initial_header e)

module _ (p : List ℕ) (whole : length p ≡ 16384) (bytes : Bytes p) where
  pub fresh_header : fresh (view p) ≡ true → FreshHeader p
  fresh_header = go (like p (zeros 12)) refl
    where
      go : (a : Bool) → like p (zeros 12) ≡ a → (a || like p initial_header) ≡ true → FreshHeader p
      go true f e = inl (same_bytes_lem p (zeros 12) (omega arith) (omega arith) bytes (bytes_to_be 12 0) f)
      go false f e = inr (same_bytes_lem p initial_header (omega arith) (omega arith) bytes (bytes_to_be 12 (16384 * 256 ^ 4 + 16372)) e)

  -- so a page in use has a count of 1 to 2,046
  pub used_count : sound (view p) ≡ true → fresh (view p) ≡ false → (0 < count p) × (count p ≤ 2046)
  unfolding view
  used_count e f = (go (dec_lt 0 (count p)), (sound_page p whole f e).few)
    where
      go : Dec (0 < count p) → 0 < count p
      go (yes h) = h
      go (no n) = never (sym (sound_none (view p) (omega arith)) ∙ e) f

  -- "Any other page with count 0 is not sound": it is sound exactly if it has one of the two
  pub emptied : count p ≡ 0 → (sound (view p) ≡ true → FreshHeader p) × (FreshHeader p → sound (view p) ≡ true)
  unfolding view
  emptied z = (λ e. fresh_header (sym (sound_none (view p) z) ∙ e), λ h. sound_none (view p) z ∙ header_fresh p h)

-- "which of the two fresh headers a page has must show in no answer": pages with either are alike (Alike, `demand_3`)
pub either_header : (p q : List ℕ) → FreshHeader p → FreshHeader q → AlikePage p q
either_header p q a b = both_fresh (header_fresh p a) (header_fresh q b)

-- ---- the request's table: seven headers, whatever stands behind them

abbrev pub headers : List (List ℕ)
headers =
    (0 ∷ 0 ∷ 0 ∷ 0 ∷ 0 ∷ 0 ∷ 0 ∷ 0 ∷ 0 ∷ 0 ∷ 0 ∷ 0 ∷ [])
    ∷ (0 ∷ 0 ∷ 0 ∷ 0 ∷ 0 ∷ 0 ∷ 64 ∷ 0 ∷ 0 ∷ 0 ∷ 63 ∷ 244 ∷ [])
    ∷ (0 ∷ 0 ∷ 0 ∷ 3 ∷ 0 ∷ 0 ∷ 63 ∷ 244 ∷ 0 ∷ 0 ∷ 63 ∷ 208 ∷ [])
    ∷ (0 ∷ 0 ∷ 0 ∷ 0 ∷ 0 ∷ 0 ∷ 62 ∷ 128 ∷ 0 ∷ 0 ∷ 63 ∷ 244 ∷ [])
    ∷ (0 ∷ 0 ∷ 0 ∷ 0 ∷ 0 ∷ 0 ∷ 64 ∷ 0 ∷ 0 ∷ 0 ∷ 0 ∷ 0 ∷ [])
    ∷ (0 ∷ 0 ∷ 0 ∷ 1 ∷ 0 ∷ 0 ∷ 0 ∷ 0 ∷ 0 ∷ 0 ∷ 0 ∷ 0 ∷ [])
    ∷ (0 ∷ 0 ∷ 0 ∷ 0 ∷ 0 ∷ 0 ∷ 0 ∷ 0 ∷ 0 ∷ 0 ∷ 0 ∷ 1 ∷ [])
    ∷ []

pub seven : (rest : List ℕ) → map (λ (h : List ℕ). sound (view (h ++ rest))) headers ≡ true ∷ true ∷ false ∷ false ∷ false ∷ false ∷ false ∷ []
unfolding sound view
seven rest = refl
