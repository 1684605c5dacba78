-- A list in the making on the maker's arrays: how many events it has, that there is room for one more, and how that is written.
use Rattle.std.specs.Prelude.{◌≡◌, ℕ, ◌+◌, ◌*◌, ◌≤◌, List, [], ◌∷◌, ◌++◌, length}
use Rattle.std.proofs.Common.{sym, ap, ◌∙◌, arith, length-append}
use mathlib.Core.List.{flatten}
use Rattle.rules.specs.Tree.{most_steps, kinds}
use Rattle.rules.specs.Calls.{written}
use Rattle.rules_schedule.specs.Schedules.{Making, most_made}
use Rattle.buffers.specs.Terms.{event_put}
use Rattle.buffers.specs.Laws.Records.{flatten-one}
use Rattle.buffers.specs.Laws.Fronts.{length-written, event_written}
use Rattle.tree_scan.specs.Laws.Frames.{Frame}
use Rattle.tree_tables.proofs.Laws.Fronts.{start-frame}
use Rattle.policy.specs.declared.Setup.{Setup}
use Rattle.run_invariant.proofs.Laws.Consequences.{runs_most}
use Rattle.run_refinement.proofs.Laws.Moves.{Known}
use Rattle.schedule_invariant.specs.Terms.{Going}
use Rattle.schedule_invariant.proofs.Laws.Turns.{going_short, going_bytes}
use Rattle.schedule_turn.specs.Terms.{Arrays, Stands}

module _ {setup : Setup} {tree lent : List ℕ} {m : Making} {a : Arrays} (s : Stands setup tree lent m a) where
  abbrev p : ℕ
  p = setup.policy

  abbrev ks : List ℕ
  ks = kinds tree

  pub frame : Frame tree
  frame = start-frame setup.workers p tree s.accepts

  pub known : Known p ks a.fields m.run
  known =
      record { some-step = frame.some; most = frame.most; shape = frame.shape; inv = s.going.invariant; shows = s.shows }

  -- How many events the list has.
  pub listed-count : a.runs + a.fields.steals ≡ length m.events
  listed-count = omega (arith, s.ran, s.shows.steals, s.going.counted)

  pub few_events : (a.runs ≤ most_steps) × (a.runs + a.fields.steals ≤ 3 * most_steps)
  unfolding most_made
  few_events = (
    omega (arith, s.ran, frame.most, runs_most p ks frame.some frame.shape m.run s.going.invariant),
    omega (arith, listed-count, frame.most, going_short setup.workers p ks frame.some frame.shape m s.going),
  )

  many : length (flatten m.events) ≡ 2 * (a.runs + a.fields.steals)
  many = going_bytes setup.workers p ks m s.going ∙ ap (λ (x : ℕ). 2 * x) (sym listed-count)

  -- The next list has one event more, of bytes x and y: there is room for it, and stored there it is written behind the others.
  module _ (next : Making) (going : Going setup.workers p ks next) (x y : ℕ)
      (more : next.events ≡ m.events ++ ((x ∷ y ∷ []) ∷ [])) where
    room-left : 2 * (a.runs + a.fields.steals) + 2 ≤ length lent
    room-left =
        omega (
          arith,
          s.room,
          listed-count,
          going_short setup.workers p ks frame.some frame.shape next going,
          ap (λ (es : List (List ℕ)). length es) more,
          length-append m.events ((x ∷ y ∷ []) ∷ []),
        )

    pub fits : 2 * (a.runs + a.fields.steals) + 2 ≤ length a.events
    fits =
        omega (
          arith,
          room-left,
          ap (λ (l : List ℕ). length l) s.listed,
          length-written (flatten m.events) lent (omega (arith, many, room-left)),
        )

    pub put : event_put a.events (a.runs + a.fields.steals) x y ≡ written (flatten next.events) lent
    put =
        rw (s.listed, more, flatten-one m.events (x ∷ y ∷ []))
        (event_written (flatten m.events) lent (a.runs + a.fields.steals) x y many room-left)
