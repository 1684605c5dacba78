-- Each return is a case of where the chain goes on, and the tables have what the two parts of an opening step last.
use Rattle.std.proofs.Common.{ℕ, suc, ◌+◌, ◌<◌, ◌≡◌, ◌∙◌, length, get_or, sym, arith}
use Rattle.rules.specs.Tree.{kinds, weights, cont}
use Rattle.rules_dag.specs.Spans.{lasts}
use Rattle.dag_walk.specs.Laws.Steps.{next_end, next_finish, next-child, next-cont, child_room, cont-is, cont_room}
use Rattle.dag_walk.specs.Laws.Steps.{child-lasts, cont-lasts}
use Rattle.dag_walk.proofs.next_step.Goals as goal
use Rattle.dag_walk.proofs.next_step.Goals.{Else-own-eq-FINISH, After-wide-after}

-- A step's kind is none that what was read is not.
unlike : {read kind other : ℕ} → read ≡ kind → (read ≡ other → ⊥) → kind ≡ other → ⊥
unlike is h e = h (is ∙ e)

-- The child is a step; so is the continuation, which was looked up.
child : (c : Else-own-eq-FINISH) → c.args.step.0 + 1 < length (kinds c.args.tree.now)
child c = child_room _ _ _ c.requires.tables _ c.requires.step_within (unlike c.kind-own.ensures c.if-own-eq-END.false)

found : (c : After-wide-after) → c.wide-after.result ≡ cont (kinds c.args.tree.now) c.args.step.0
found c =
    c.wide-after.ensures
    ∙ cont-is _ _ _ c.requires.tables _ c.requires.step_within (unlike c.kind-own.ensures c.if-own-eq-END.false)

within : (c : After-wide-after) → c.wide-after.result < length (kinds c.args.tree.now)
within c =
    let opens = unlike c.kind-own.ensures c.if-own-eq-END.false in
    omega (arith, found c, cont_room _ _ _ c.requires.tables _ c.requires.step_within opens)

-- What the two parts last.
both : (c : After-wide-after)
    → let a = c.args in
    let part = lasts (kinds a.tree.now) (weights a.tree.now) in
    (get_or a.lasting.now (a.step.0 + 1) 0 ≡ part (suc a.step.0))
    × (get_or a.lasting.now c.wide-after.result 0 ≡ part (cont (kinds a.tree.now) a.step.0))
both c =
    let pre = c.requires in
    let opens = unlike c.kind-own.ensures c.if-own-eq-END.false in (
      child-lasts _ _ _ pre.tables _ pre.step_within opens _ pre.lasted,
      cont-lasts _ _ _ pre.tables _ pre.step_within opens _ pre.lasted _ (found c),
    )

pub returns-then-own-eq-END : goal.returns-then-own-eq-END
returns-then-own-eq-END c = next_end _ _ _ (sym c.kind-own.ensures ∙ c.if-own-eq-END.true) _ c.after_finish.ensures

pub returns-then-own-eq-FINISH : goal.returns-then-own-eq-FINISH
returns-then-own-eq-FINISH c =
    next_finish _ _ _ (unlike c.kind-own.ensures c.if-own-eq-END.false) (sym c.kind-own.ensures ∙ c.if-own-eq-FINISH.true)

pub bounds-ends-child : goal.bounds-ends-child
bounds-ends-child c = omega (arith, child (goal.at.bounds-ends-child c).Else-own-eq-FINISH, c.requires.tables.room_ends)

pub bounds-lasting-after : goal.bounds-lasting-after
bounds-lasting-after c = omega (arith, within (goal.at.bounds-lasting-after c).After-wide-after, c.requires.lasted.room)

pub bounds-lasting-child : goal.bounds-lasting-child
bounds-lasting-child c = omega (arith, child (goal.at.bounds-lasting-child c).Else-own-eq-FINISH, c.requires.lasted.room)

pub returns-then-lasting-after : goal.returns-then-lasting-after
returns-then-lasting-after c =
    let kind = c.kind-own.ensures in
    next-child _ _ _ (unlike kind c.if-own-eq-END.false) (unlike kind c.if-own-eq-FINISH.false)
    (omega (arith, both (goal.at.returns-then-lasting-after c).After-wide-after))

pub returns : goal.returns
returns c =
    let kind = c.kind-own.ensures in
    let at = (goal.at.returns c).After-wide-after in
    rw (found at) (next-cont _ _ _ (unlike kind c.if-own-eq-END.false) (unlike kind c.if-own-eq-FINISH.false) (omega (arith, both at)))
