-- `list_text::line_length` meets its contract. Assumes nothing.
use mathlib.Core.Path.{refl}
use native.Mathlib.Omega.{arith}
use Rattle.rule_laws.proofs.Digits.{decimal_short}
use Rattle.list_text.specs.Written.{code_of}
use Rattle.list_text.proofs.EachKind.{code_some, line_parts, tail_most}
use Rattle.list_text.proofs.line_length.Goals as goal

pub overflow_add-result : goal.overflow_add-result
overflow_add-result c = omega (arith, c.number_length.ensures, decimal_short c.args.n)

pub overflow_add-result-in-Some : goal.overflow_add-result-in-Some
overflow_add-result-in-Some c = omega (arith, c.number_length.ensures, decimal_short c.args.n, c.tail_length.ensures, tail_most (code_of c.in-Some.kind))

pub returns-in-None : goal.returns-in-None
returns-in-None c = rw c.in-None.is (record { value = refl; upper_bound = omega arith })

pub returns-in-Some : goal.returns-in-Some
returns-in-Some c = let k = code_of c.in-Some.kind in
    let n = c.args.n in
    rw c.in-Some.is
    (record {
      value = omega (arith, c.number_length.ensures, c.tail_length.ensures, line_parts k n (code_some c.in-Some.kind));
      upper_bound = omega (arith, c.number_length.ensures, decimal_short n, c.tail_length.ensures, tail_most k);
    })
