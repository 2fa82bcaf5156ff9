-- The header's numbers as the code has them.
use Rattle.std.specs.Prelude.{◌≡◌, ◌<◌}
use Rattle.store.specs.Page.{View}
use Rattle.layout.specs.declared.header.Header.{Header}

-- they are the view's, each within its bytes
pub record Heads (h : Header) (v : View) : Type 0 where
  pub count : h.count ≡ v.slot_count
  pub first : h.first ≡ v.first_free
  pub start : h.start ≡ v.data_start
  pub space : h.space ≡ v.free_space
  pub count_fits : h.count < 65536
  pub first_fits : h.first < 65536
  pub start_fits : h.start < 4294967296
  pub space_fits : h.space < 4294967296
