-- `small_lists::answer_numbers` meets its contract.
-- Assumes nothing.
use native.Mathlib.Omega.{arith}
use mathlib.Core.Path.{sym}
use lib.Seq.{length-take-le}
use Rattle.small_lists.proofs.NumberLaws.{some_list, few}
use Rattle.small_lists.proofs.answer_numbers.Goals as goal

pub unwrap-count-requires : goal.unwrap-count-requires
unwrap-count-requires c =
    some_list c.args.number c.small_list.result c.small_list.new.words c.requires c.small_list.ensures

pub overflow_mul-requests : goal.overflow_mul-requests
overflow_mul-requests c =
    omega (arith, few c.args.number c.unwrap-count.result _ c.small_list.new.words c.requires c.small_list.ensures c.unwrap-count.ensures)

pub slice_bounds-requests-end : goal.slice_bounds-requests-end
slice_bounds-requests-end c =
    omega (arith, few c.args.number c.unwrap-count.result _ c.small_list.new.words c.requires c.small_list.ensures c.unwrap-count.ensures)

pub slice_bounds-serve_new-end : goal.slice_bounds-serve_new-end
slice_bounds-serve_new-end c =
    sym (length-take-le _ _ (omega (arith, few c.args.number c.unwrap-count.result _ c.small_list.new.words c.requires c.small_list.ensures c.unwrap-count.ensures)))

pub shared_ref_as_front-result : goal.shared_ref_as_front-result
shared_ref_as_front-result c =
    few c.args.number c.unwrap-count.result _ c.small_list.new.words c.requires c.small_list.ensures c.unwrap-count.ensures
