-- What follows on each list of events that leaves what a core stores.
use Rattle.std.proofs.Common.{◌≡◌, Some, None, option_map, ℕ, List, [], ◌∷◌, ◌++◌, map, Any, IfOk, OnErr, refl, sym, ◌∙◌, ap, subst}
use Rattle.std.specs.declared.result.Result.{Result}
use Rattle.std.specs.declared.result.Result.TheVariants.{Ok, Err}
use Rattle.interleave_core.specs.Meaning.{World, Parts, first_parts, parts_step}
use Rattle.interleave_core.specs.World.{IsWorld}
use Rattle.interleave_core.specs.CoreState.{CoreState, core_start, core_step, core_after, core_run}
use Rattle.interleave_core.specs.MeaningOfEvents.{Answered, fetches, Stands}
use Rattle.interleave_core.specs.Core.{FollowsAll, FollowsNone}
use Rattle.interleave_core.specs.declared.events.Event.{Event}
use Rattle.interleave_core.specs.declared.events.NotPossible.{NotPossible}
use Rattle.interleave_core.specs.declared.events.Shown.{Shown}
use Rattle.interleave_core.proofs.Runs.{core_from-push}
use Rattle.interleave_core.proofs.Logs.{run_logs}
use Rattle.interleave_core.proofs.Alone.{run_alone}
use Rattle.interleave_core.proofs.Told.{told, told_from, logged_told, Shows, shown_told, told_shown}
use Rattle.interleave_core.proofs.Whole.{are_first, run_whole}
use Rattle.interleave_core.proofs.Exact.{run_exact}
use Rattle.interleave_core.proofs.Ruled.{run_keeps}

-- after every list of events
pub run_stands : (w : World) (c : CoreState) (events : List Event) → IsWorld w → core_run w events ≡ Some c → Stands w events c.parts
run_stands w c events world run = record {
  tasks = run_alone w c events run;
  fetched = λ t l. ap (map (λ (a : Answered). a.visit)) (sym (told_is t)) ∙ (sym (logged_told (c.logs t)) ∙ run_logs w c events world run t l);
  exact = λ ended s p f pos lt. (
    λ has. let t = (run_exact w c events world run ended s p f pos lt).0 has in (t.0, t.1, subst (Any (Shows s p f)) (told_is t.0) (shown_told s p f (c.logs t.0) t.2)),
    λ x. (run_exact w c events world run ended s p f pos lt).1 (x.0, x.1, told_shown s p f (c.logs x.0) (subst (Any (Shows s p f)) (sym (told_is x.0)) x.2)),
  );
  whole = λ ended first p lt pos. run_whole w c events world run ended (are_first w events first) p lt pos;
}
  where
    told_is : (t : ℕ) → told (c.logs t) ≡ fetches w t (first_parts w) events
    told_is t = told_from w (core_start w) c events t run

follows_one : (w : World) (old new : Parts) (e : Event) (shown : Shown) → IsWorld w → parts_step w old e ≡ Some (record { parts = new; shown = shown }) → FollowsAll w old e new shown
follows_one w old new e shown world h = λ events c run same.
    let made : parts_step w c.parts e ≡ Some (record { parts = new; shown = shown }) = subst (λ (p : Parts). parts_step w p e ≡ Some (record { parts = new; shown = shown })) (sym same) h in
    let step : core_step w c e ≡ Some (core_after w c e (record { parts = new; shown = shown })) = ap (option_map (core_after w c e)) made in
    record {
      after = (core_after w c e (record { parts = new; shown = shown })).core;
      step = step;
      run = core_from-push w (core_start w) c events e _ run step;
      stored = refl;
      stands = run_stands w _ (events ++ e ∷ []) world (core_from-push w (core_start w) c events e _ run step);
      rule = run_keeps w _ (events ++ e ∷ []) world (core_from-push w (core_start w) c events e _ run step);
    }

pub follows : (w : World) (old new : Parts) (e : Event) (r : Result Shown NotPossible) → IsWorld w → IfOk r (λ shown. parts_step w old e ≡ Some (record { parts = new; shown = shown })) → IfOk r (FollowsAll w old e new)
follows w old new e (Ok shown) world h = follows_one w old new e shown world h
follows w old new e (Err x) world h = h

pub never : (w : World) (old : Parts) (e : Event) (r : Result Shown NotPossible) → OnErr r (parts_step w old e ≡ None) → OnErr r (FollowsNone w old e)
never w old e (Ok shown) h = h
never w old e (Err x) h = λ events c run same. ap (option_map (core_after w c e)) (subst (λ (p : Parts). parts_step w p e ≡ None) (sym same) h)
