-- `list_lines::read_letter` meets its contract: a letter and a tab. Assumes nothing.
use native.Mathlib.Omega.{arith}
use Rattle.list_lines.proofs.Letters.{letter_short, letter_long, letter_d, letter_o, letter_s, letter_u, letter_other}
use Rattle.list_lines.proofs.read_letter.Goals as goal

pub returns-then-end-at-lt2 : goal.returns-then-end-at-lt2
returns-then-end-at-lt2 c = letter_short _ _ _ c.requires c.if-end-at-lt2.true

pub returns-then-text-at-ne9 : goal.returns-then-text-at-ne9
returns-then-text-at-ne9 c = letter_long _ _ _ c.requires c.if-end-at-lt2.false c.if-text-at-ne9.true

pub returns-in-100 : goal.returns-in-100
returns-in-100 c = rw (letter_d _ _ _ c.requires c.if-end-at-lt2.false c.if-text-at-ne9.false c.in-100.is) c.read_dropped.ensures

pub returns-in-111 : goal.returns-in-111
returns-in-111 c = rw (letter_o _ _ _ c.requires c.if-end-at-lt2.false c.if-text-at-ne9.false c.in-111.is) c.read_exchange.ensures

pub returns-in-115 : goal.returns-in-115
returns-in-115 c = rw (letter_s _ _ _ c.requires c.if-end-at-lt2.false c.if-text-at-ne9.false c.in-115.is) c.read_split.ensures

pub returns-in-117 : goal.returns-in-117
returns-in-117 c = rw (letter_u _ _ _ c.requires c.if-end-at-lt2.false c.if-text-at-ne9.false c.in-117.is) c.read_isolated.ensures

pub returns-in_default : goal.returns-in_default
returns-in_default c = letter_other _ _ _ c.requires c.if-end-at-lt2.false c.if-text-at-ne9.false (omega arith) (omega arith) (omega arith) (omega arith)
