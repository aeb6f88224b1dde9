-- Document 01, "Calls": "3 map".
use Rattle.std.specs.Prelude.{ℕ, List, Option, Some, None, cond, eqb}
use Rattle.layout.specs.declared.Sizes.{Sizes}
use Rattle.layout.specs.Outcomes.{outcome}
use Rattle.layout.specs.Places.{get, leaf}
use Rattle.leaf_map.specs.declared.LeafId.{LeafId}
use Rattle.placing.specs.Placing.{placing}
use Rattle.pages.specs.Answers.{Outcome, refuse, page_at}

-- "Place found? No: 13."
unfoldable pub mapping : Sizes → Option LeafId → List ℕ → Outcome
mapping z (Some id) r = outcome (page_at z r id.0 1) r
mapping z None r = refuse 13 r

-- Domain d maps frame f: "frame unmapped by anyone? No: 12."
unfoldable pub map_call : Sizes → List ℕ → ℕ → ℕ → Outcome
map_call z s d f =
    cond (eqb (get z s (leaf f)) 0) (mapping z (placing z s d f).answer (placing z s d f).words) (refuse 12 s)
