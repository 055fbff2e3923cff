-- How the fields of a node give what it is to contracts.
use Rattle.std.specs.Prelude.{ℕ, take, option_map}
use Rattle.ct_definitions.specs.Pairs.{Pair}
use Rattle.ct_node.specs.Nodes.{NodeValue}
use Rattle.ct_node.specs.Cells.{entries_of}
use Rattle.ct_node.specs.declared.edge.Edge.{Edge}
use Rattle.ct_node.specs.declared.node.Node.TheInside.{Inside}

-- the pair of a bound
abbrev pub edge_pair : ℕ → Edge → Pair
edge_pair key_len edge = record { key = take key_len edge.key; num = edge.num }

-- what a node is
abbrev pub value_of : Inside → NodeValue
value_of node = record {
  file = node.file;
  index = node.index;
  leaf = node.leaf;
  key_len = node.key_len;
  low = option_map (edge_pair node.key_len) node.low;
  high = option_map (edge_pair node.key_len) node.high;
  right = node.right;
  entries = entries_of node.key_len node.leaf node.count node.cells;
}
