-- The values of slots, one read or changed.
use Rattle.std.proofs.Common.{◌≡◌, ℕ, ◌<◌, ◌≤◌, List, length, get_or, set, sym, ap, ◌∙◌}
use Rattle.std.proofs.lemmas.List.{map-set, get_or-map, length-map, get_or_past, set_past}
use Rattle.cells.specs.declared.value.Value.{Value}
use Rattle.cells.specs.declared.value.Value.TheVariants.{Unset}
use Rattle.controller.specs.declared.slot.Slot.{Slot}
use Rattle.controller.specs.Registers.{value_in, values_in}

module _ (xs : List Slot) (i : ℕ) where
  pub read-within : (d : Slot) → i < length xs → get_or (values_in xs) i Unset ≡ (get_or xs i d).value
  read-within d h = get_or-map value_in xs i d Unset h

  pub read_past : length xs ≤ i → get_or (values_in xs) i Unset ≡ Unset
  read_past h = get_or_past (values_in xs) i Unset (rw (length-map xs value_in) h)

  pub stored-within : (s : Slot) (v : Value) → s ≡ record { value = v } → values_in (set xs i s) ≡ set (values_in xs) i v
  stored-within s v e = map-set value_in xs i s ∙ ap (λ (t : Slot). set (values_in xs) i t.value) e

  pub stored_past : (v : Value) → length xs ≤ i → values_in xs ≡ set (values_in xs) i v
  stored_past v h = sym (set_past (values_in xs) i v (rw (length-map xs value_in) h))

  pub values_length : i < length xs → i < length (values_in xs)
  values_length h = rw (length-map xs value_in) h
