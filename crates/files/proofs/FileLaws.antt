-- A record as a part of its file: the whole of it, what is there of the last one, or nothing.
use mathlib.Core.Path.{◌≡◌, sym, ◌∙◌}
use mathlib.Core.List.{List, []}
use Prim.Native.Nat.{ℕ, ◌+◌, ◌-◌, ◌*◌, ◌/◌, ◌≤◌, ◌<◌}
use native.Mathlib.Nat.{add-sub_cancel_left, le_refl}
use native.Mathlib.Omega.{arith}
use lib.ListN.{length, take, drop, length-drop, drop_of_length-le}
use lib.Seq.{take_all, length-take-le}
use Rattle.files.specs.Files.{record_at}

module _ (file : List ℕ) (k : ℕ) where
  -- past the last byte there is nothing,
  pub record_past : length file / 219 < k → [] ≡ record_at file k
  unfolding record_at
  record_past h = let past : length file ≤ 219 * k = omega arith in rw (drop_of_length-le file past)

  -- at the end there is what the file has left,
  pub record_last : k ≡ length file / 219 → take (length file - 219 * k) (drop (219 * k) file) ≡ record_at file k
  unfolding record_at
  record_last e =
      let short : length (drop (219 * k) file) ≤ 219 = rw length-drop (omega arith) in
      let left : length (drop (219 * k) file) ≤ length file - 219 * k = rw length-drop (le_refl (length file - 219 * k)) in
      take_all (length file - 219 * k) (drop (219 * k) file) left ∙ sym (take_all 219 (drop (219 * k) file) short)

  -- and before it 219 bytes.
  pub record_whole : take (219 * k + 219 - 219 * k) (drop (219 * k) file) ≡ record_at file k
  unfolding record_at
  record_whole = rw (add-sub_cancel_left (219 * k) 219)

  -- A record that is wholly there has 219 bytes.
  pub record_wide : 219 * k + 219 ≤ length file → length (record_at file k) ≡ 219
  unfolding record_at
  record_wide h = length-take-le 219 (drop (219 * k) file) (rw length-drop (omega arith))
