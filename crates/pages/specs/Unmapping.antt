-- Document 01, "Calls": "4 unmap".
use Rattle.std.specs.Prelude.{ℕ, List, cond}
use Rattle.layout.specs.declared.Sizes.{Sizes}
use Rattle.layout.specs.Outcomes.{outcome}
use Rattle.sound.specs.Sentences.{is_mapped_by}
use Rattle.releasing.specs.Releasing.{releasing}
use Rattle.pages.specs.Answers.{Finished, Outcome, refuse}

-- Domain d unmaps frame f: "mapped by this domain? No: 14."
unfoldable pub unmap_call : Sizes → List ℕ → ℕ → ℕ → Outcome
unmap_call z s d f = cond (is_mapped_by z s d f) (outcome (Finished 1) (releasing z s d f)) (refuse 14 s)
