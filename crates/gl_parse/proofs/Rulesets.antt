-- The lemmas that the proofs of the grammar's readers use.
use Rattle.gl_parse.proofs.Forms.{tree-Number, tree-At, tree-Spill, tree-Corners, text_is, chain_is, chained_none}
use Rattle.gl_parse.proofs.Rules.{atom_integer, atom_address, atom_spill, atom_area, atom_colon, atom_text}

pub ruleset address_rules = (tree-At, tree-Spill, tree-Corners, atom_address, atom_spill, atom_area, atom_colon)

pub ruleset chained_rules = (chain_is, chained_none)

pub ruleset atom_rules = (tree-Number, text_is, atom_integer, atom_text)
