-- A step with the first places of the lent buffers: what it makes of the whole ones.
use Rattle.std.specs.Prelude.{◌≡◌, refl, ◌≤◌, Result, Ok, Err}
use Rattle.std.proofs.Common.{sym, ap, subst}
use Rattle.spec.specs.Steps.{Places, shortest, listed, Answer}
use Rattle.map.specs.Views.{Lent}
use Rattle.buffers.specs.Buffers.{Buffers, places_of, Beyond, Lends, first_of}
use Rattle.buffers.specs.FirstPlaces.{first_places, behind, behind_first, behind_others, beyond_part, rows_part}
use Rattle.transactions.specs.Cores.{Core}
use Rattle.transactions.specs.Views.{Logs, state_of}
use Rattle.transactions.specs.Ready.{Refines}
use Rattle.engine.specs.declared.steps.Op.{Op}
use Rattle.engine.specs.Performs.{Performed}
use Rattle.spec.specs.declared.Refusal.{Refusal}
use Rattle.engine.specs.declared.steps.Told.{Told}
use Rattle.engine.specs.declared.steps.Told.TheVariants as told
use Rattle.engine.specs.Listings.{places_fit}
use Rattle.engine.specs.Performs.{step_in, reply_in, places_in, Performs}
use Rattle.replay.specs.CodedSteps.{PerformsFirst}

-- ---- from the parts

pub performs_first : {l l' : Lent} {g g' : Logs} {c : Core} {o : Op} {r : Performed} (w : Places) (b : Buffers) {p : Buffers} → Lends (places_of b) w
    → Performs l g c o (first_of w b) l' g' p r → PerformsFirst l g c o w b l' g' (behind w p b) r
performs_first {l} {l'} {g} {g'} {c} {o} {r} w b n h =
    record {
      performs = subst (λ (x : Buffers). Performs l g c o (first_of w b) l' g' x r) (sym (behind_first w b n h.beyond)) h;
      others = behind_others w b n h.beyond;
    }

-- ---- to the whole

reply_part : (p : Result Told Refusal) (w : Places) (b : Buffers) → places_in p ≤ shortest w → reply_in p (first_of w b) ≡ reply_in p b
reply_part (Ok told.Nothing) w b h = refl
reply_part (Ok (told.Found f)) w b h = refl
reply_part (Ok (told.Listed n)) w b h = ap listed (rows_part n w b h)
reply_part (Ok (told.Numbered n)) w b h = refl
reply_part (Ok (told.Counted n)) w b h = refl
reply_part (Err r) w b h = refl

-- A step that wants these places, of the whole buffers: `Performs` with these numbers for the lengths, and no more places filled.
pub record PerformsWith (l : Lent) (g : Logs) (c : Core) (o : Op) (w : Places) (b : Buffers) (l' : Lent) (g' : Logs) (b' : Buffers) (r : Performed) : Type 0 where
  pub refines : Refines l g c (step_in o w) l' g' r.core (reply_in r.reply b')
  pub beyond : Beyond (places_in r.reply) b b'
  pub few : places_in r.reply ≤ shortest w

pub performs_with : {l l' : Lent} {g g' : Logs} {c : Core} {o : Op} {w : Places} {b b' : Buffers} {r : Performed} → Lends (places_of b) w
    → PerformsFirst l g c o w b l' g' b' r → PerformsWith l g c o w b l' g' b' r
performs_with {l} {l'} {g} {g'} {c} {o} {w} {b} {b'} {r} n h =
    let first : places_of (first_of w b) ≡ w = first_places w b n in
    let few : places_in r.reply ≤ shortest w
    = subst (λ (x : Places). places_in r.reply ≤ shortest x) first
    (places_fit (state_of l g c) o (places_of (first_of w b)) r.reply (first_of w b') h.performs.refines.says) in
    record {
      refines =
          subst (λ (x : Places). Refines l g c (step_in o x) l' g' r.core (reply_in r.reply b')) first
          (subst (λ (x : Answer). Refines l g c (step_in o (places_of (first_of w b))) l' g' r.core x) (reply_part r.reply w b' few) h.performs.refines);
      beyond = beyond_part w b b' n h.performs.beyond h.others;
      few = few;
    }
