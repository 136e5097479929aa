-- The members of an object of a plan, by name and by number (this project's rules).
use Rattle.std.specs.Prelude.{ℕ, Bool, true, ◌&&◌, nat_le, List, [], ◌∷◌, length, Option, Some, None, option_and_then, Result, Ok, Err, if◌then◌else◌, is_some}
use Rattle.std.specs.List.{list_any, list_all}
use Rattle.std.specs.Str.{bytes_eq}
use Rattle.serde_json.specs.Data.{Data, Items, Members, no_members, member}
use Rattle.serde_json.specs.Events.{items_len}
use Rattle.serde_json.specs.Find.{get, as_bool, as_number, as_u64, as_str, as_array, as_object}
use Rattle.mmt_plan.specs.Places.{refused}
use Rattle.mmt_plan.specs.Reading.{◌>>=◌, or_refuse, each}
use Rattle.mmt_plan.specs.declared.ends.Reason.TheVariants.{NotObject, Missing, Value, UnknownKey}
use Rattle.mmt_plan.specs.declared.ends.Refusal.{Refusal}
use Rattle.mmt_plan.specs.declared.spots.Spot.{Spot}

-- a value, where it passes a test
abbrev pub where_true : {A : Type 0} → (A → Bool) → A → Option A
where_true test x = if test x then Some x else None

-- a number is in a range
abbrev pub is_within : ℕ → ℕ → ℕ → Bool
is_within least most n = nat_le least n && nat_le n most

-- the number that a value is, where it is in a range
abbrev pub as_number_in : ℕ → ℕ → Data → Option ℕ
as_number_in least most d = option_and_then (where_true (is_within least most)) (option_and_then as_u64 (as_number d))

-- the text that a value is, where its length in bytes is in a range
abbrev pub as_text_of : ℕ → ℕ → Data → Option (List ℕ)
as_text_of least most d = option_and_then (where_true (λ s. is_within least most (length s))) (as_str d)

-- the array that a value is, where its length is in a range
abbrev pub as_array_of : ℕ → ℕ → Data → Option Items
as_array_of least most d = option_and_then (where_true (λ ds. is_within least most (items_len ds))) (as_array d)

-- the array that a value is, where it has this many items or more
abbrev pub as_array_from : ℕ → Data → Option Items
as_array_from least d = option_and_then (where_true (λ ds. nat_le least (items_len ds))) (as_array d)

-- the object is one
unfoldable pub is_object_at : Spot → Data → Result (Unit {0}) Refusal
is_object_at s d = if is_some (as_object d) then Ok tt else Err (refused NotObject 0 s)

-- the member of a name and number
unfoldable pub member_at : Spot → ℕ → List ℕ → Data → Result Data Refusal
member_at s field name d = or_refuse (refused Missing field s) (get name d)

-- a member that is right as something
abbrev pub right_member : {A : Type 0} → (Data → Option A) → Spot → ℕ → List ℕ → Data → Result A Refusal
right_member as_right s field name d = do
  m ← member_at s field name d
  or_refuse (refused Value field s) (as_right m)

-- a member that is a number in a range
unfoldable pub number_at : ℕ → ℕ → Spot → ℕ → List ℕ → Data → Result ℕ Refusal
number_at least most = right_member (as_number_in least most)

-- a member that is a text whose length in bytes is in a range
unfoldable pub text_at : ℕ → ℕ → Spot → ℕ → List ℕ → Data → Result (List ℕ) Refusal
text_at least most = right_member (as_text_of least most)

-- a member that is true or false
unfoldable pub boolean_at : Spot → ℕ → List ℕ → Data → Result Bool Refusal
boolean_at = right_member as_bool

-- a member that is an array whose length is in a range
unfoldable pub array_at : ℕ → ℕ → Spot → ℕ → List ℕ → Data → Result Items Refusal
array_at least most = right_member (as_array_of least most)

-- a member that is an array of this many items or more
unfoldable pub array_from_at : ℕ → Spot → ℕ → List ℕ → Data → Result Items Refusal
array_from_at least = right_member (as_array_from least)

-- a member that is a list of N items, each read by its number in the object
unfoldable pub list_at : {A : Type 0} → (Spot → ℕ → Data → Result A Refusal) → ℕ → ℕ → Spot → ℕ → List ℕ → Data → Result (List A) Refusal
list_at read least most s field name d = do
  items ← array_at least most s field name d
  each (read s) 0 items

-- a member that is a list of this many items or more
unfoldable pub list_from_at : {A : Type 0} → (Spot → ℕ → Data → Result A Refusal) → ℕ → Spot → ℕ → List ℕ → Data → Result (List A) Refusal
list_from_at read least s field name d = do
  items ← array_from_at least s field name d
  each (read s) 0 items

-- the keys of an object
abbrev pub keys_of : Members → List (List ℕ)
keys_of no_members = []
keys_of (member k d ms) = k ∷ keys_of ms

-- a name stands in a list of names
abbrev pub is_name_of : List (List ℕ) → List ℕ → Bool
is_name_of names k = list_any (λ n. bytes_eq n k) names

-- each member of an object has one of these names
abbrev pub has_only : List (List ℕ) → Option Members → Bool
has_only names None = true
has_only names (Some ms) = list_all (is_name_of names) (keys_of ms)

-- no other key stands in the object
unfoldable pub no_other_at : Spot → List (List ℕ) → Data → Result (Unit {0}) Refusal
no_other_at s names d = if has_only names (as_object d) then Ok tt else Err (refused UnknownKey 0 s)
