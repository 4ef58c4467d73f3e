-- `line::put_label` meets its contract: each arm puts the label of its number. Assumes nothing.
use mathlib.Core.Path.{◌≡◌}
use Rattle.rules.specs.Line.{bytes, labels}
use Rattle.line.proofs.Words.{only_nine}
use Rattle.line.proofs.put_label.Goals as goal

pub returns-in-0 : goal.returns-in-0
unfolding bytes labels
returns-in-0 c = let e : c.args.k ≡ 0 = c.in-0.is in
    rw e c.put_text.ensures

pub returns-in-1 : goal.returns-in-1
unfolding bytes labels
returns-in-1 c = let e : c.args.k ≡ 1 = c.in-1.is in
    rw e c.put_text-in-1.ensures

pub returns-in-2 : goal.returns-in-2
unfolding bytes labels
returns-in-2 c = let e : c.args.k ≡ 2 = c.in-2.is in
    rw e c.put_text-in-2.ensures

pub returns-in-3 : goal.returns-in-3
unfolding bytes labels
returns-in-3 c = let e : c.args.k ≡ 3 = c.in-3.is in
    rw e c.put_text-in-3.ensures

pub returns-in-4 : goal.returns-in-4
unfolding bytes labels
returns-in-4 c = let e : c.args.k ≡ 4 = c.in-4.is in
    rw e c.put_text-in-4.ensures

pub returns-in-5 : goal.returns-in-5
unfolding bytes labels
returns-in-5 c = let e : c.args.k ≡ 5 = c.in-5.is in
    rw e c.put_text-in-5.ensures

pub returns-in-6 : goal.returns-in-6
unfolding bytes labels
returns-in-6 c = let e : c.args.k ≡ 6 = c.in-6.is in
    rw e c.put_text-in-6.ensures

pub returns-in-7 : goal.returns-in-7
unfolding bytes labels
returns-in-7 c = let e : c.args.k ≡ 7 = c.in-7.is in
    rw e c.put_text-in-7.ensures

pub returns-in-8 : goal.returns-in-8
unfolding bytes labels
returns-in-8 c = let e : c.args.k ≡ 8 = c.in-8.is in
    rw e c.put_text-in-8.ensures

pub returns-in_default : goal.returns-in_default
unfolding bytes labels
returns-in_default c = let e : c.args.k ≡ 9 = only_nine c.requires.label c.in_default.in_default-own.rest in
    rw e c.put_text-in_default.ensures
