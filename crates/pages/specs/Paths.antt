-- Document 01, "Calls": "5 path".
use Rattle.std.specs.Prelude.{ℕ, List, cond}
use Rattle.layout.specs.declared.Sizes.{Sizes}
use Rattle.layout.specs.Outcomes.{outcome}
use Rattle.layout.specs.Places.{get, leaf}
use Rattle.sound.specs.Sentences.{is_mapped_by}
use Rattle.pages.specs.Answers.{Outcome, refuse, page_at}

-- Domain d asks for the path of frame f: "mapped by this domain? No: 14."
unfoldable pub path_call : Sizes → List ℕ → ℕ → ℕ → Outcome
path_call z s d f = cond (is_mapped_by z s d f) (outcome (page_at z s (get z s (leaf f)) 0) s) (refuse 14 s)
