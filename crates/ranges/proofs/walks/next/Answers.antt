-- `walks::next` meets its contract: by which of the two addresses is smaller.
use mathlib.Core.Path.{sym, subst}
use Rattle.ranges.specs.Walks.{ComesNext}
use Rattle.ranges.specs.WalkLaws.{step_index_only, step_own_only, step_index, step_own, step_both}
use Rattle.ranges.proofs.walks.next.Goals as goal

pub returns-then-b-j : goal.returns-then-b-j
returns-then-b-j c =
    let p = c.requires in
    let l = c.if-b-j.true in
    record { comes = λ f w a. subst (ComesNext _ _ _) (sym c.of_index.ensures) (step_index_only _ w _ _ p.inside p.j_bound _ l a) }

pub returns-then-b-i : goal.returns-then-b-i
returns-then-b-i c =
    let p = c.requires in
    let l = c.if-b-j.false in
    let k = c.if-b-i.true in
    let e = c.write_at-e.ensures in
    record { comes = λ f w a. subst (ComesNext _ _ _) (sym c.of_write.ensures) (step_own_only _ w _ _ p.inside p.j_bound _ l k e) }

pub returns-then-s-e : goal.returns-then-s-e
returns-then-s-e c =
    let p = c.requires in
    let l = c.if-b-i.false in
    let k = c.if-b-j.false in
    let e = c.write_at-e.ensures in
    let q = c.if-s-e.true in
    record { comes = λ f w a. subst (ComesNext _ _ _) (sym c.of_index-then-s-e.ensures) (step_index _ w _ _ p.inside p.j_bound _ _ l k a e q) }

pub returns-then-e-s : goal.returns-then-e-s
returns-then-e-s c =
    let p = c.requires in
    let l = c.if-b-i.false in
    let k = c.if-b-j.false in
    let e = c.write_at-e.ensures in
    let q = c.if-e-s.true in
    record { comes = λ f w a. subst (ComesNext _ _ _) (sym c.of_write-then-e-s.ensures) (step_own _ w _ _ p.inside p.j_bound _ _ l k a e q) }

pub returns : goal.returns
returns c =
    let p = c.requires in
    let l = c.if-b-i.false in
    let k = c.if-b-j.false in
    let e = c.write_at-e.ensures in
    let q = c.if-s-e.false in
    let r = c.if-e-s.false in
    record { comes = λ f w a. subst (ComesNext _ _ _) (sym c.of_write-2.ensures) (step_both _ w _ _ p.inside p.j_bound _ _ l k a e q r) }
