-- `text_in::add_fields` meets its contract. Assumes nothing.
use Rattle.text_in.proofs.Growing.{fields_long, fields_other, fields_point, fields_face}
use Rattle.text_in.proofs.add_fields.Goals as goal

pub returns-then-a-ne1 : goal.returns-then-a-ne1
returns-then-a-ne1 c = fields_long c.requires c.if-a-ne1.true

pub returns-then-line-eq112 : goal.returns-then-line-eq112
returns-then-line-eq112 c = fields_point c.requires c.if-a-ne1.false c.if-line-eq112.true c.add_point.ensures

pub returns-then-line-eq102 : goal.returns-then-line-eq102
returns-then-line-eq102 c = fields_face c.requires c.if-a-ne1.false c.if-line-eq102.true c.add_face.ensures

pub returns : goal.returns
returns c = fields_other c.requires c.if-a-ne1.false c.if-line-eq112.false c.if-line-eq102.false
