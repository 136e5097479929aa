-- How many nodes a JSON value has: itself, and those of its items or members (this project's rule).
use Rattle.std.specs.Prelude.{ℕ, ◌+◌}
use Rattle.serde_json.specs.Data.{Data, null, boolean, number, string, array, object, Items, no_items, item, Members, no_members, member}

-- the nodes of a value, of items and of members
abbrev mutual
  pub nodes : Data → ℕ
  nodes null = 1
  nodes (boolean b) = 1
  nodes (number n) = 1
  nodes (string s) = 1
  nodes (array ds) = 1 + item_nodes ds
  nodes (object ms) = 1 + member_nodes ms

  pub item_nodes : Items → ℕ
  item_nodes no_items = 0
  item_nodes (item d ds) = nodes d + item_nodes ds

  pub member_nodes : Members → ℕ
  member_nodes no_members = 0
  member_nodes (member k d ms) = nodes d + member_nodes ms
