-- `list_text_try::nothing` meets what its call asks: antt computes the lengths and the sorted corners. Assumes nothing.
use mathlib.Core.Path.{refl}
use native.Mathlib.Omega.{arith}
use Rattle.list_text_try.proofs.nothing.Goals as goal

pub show_list-requires : goal.show_list-requires
show_list-requires g c = record {
  fates = record { fit = omega arith; few = omega arith };
  splits = record {
    sorted = record { column_fit = omega arith; sorted_fit = omega arith; few = omega arith; top = 3; enough = omega arith; sorted = refl };
    origins_fit = omega arith;
    olds_fit = omega arith;
    few_points = omega arith;
  };
  unused = record { fit = omega arith; few = omega arith };
}
