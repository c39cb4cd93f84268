-- A line that is read asks for what the policy names.
use Rattle.std.proofs.Common.{◌≡◌, ℕ, ◌<◌, ◌≤◌, ◌^◌, Bool, true, ◌&&◌, List, length, Option, Some, None, Result, Ok, Err, IfOk, sym, ◌∙◌, ap, subst, arith}
use Rattle.std.proofs.lemmas.List.{length-map}
use Rattle.std.specs.Prelude.{nat_le, nat_lt}
use Rattle.std.proofs.lemmas.Bool.{ltb-true}
use borrow.Author.Tests.{leb-true}
use Rattle.gt_base.specs.Names.{is_name}
use Rattle.gt_base.specs.declared.events.SessionId.{SessionId}
use Rattle.gt_base.specs.declared.events.RoleId.{RoleId}
use Rattle.gt_base.specs.declared.events.UserId.{UserId}
use Rattle.gt_base.specs.declared.events.PermId.{PermId}
use Rattle.gt_base.specs.declared.events.Fluent.{Fluent}
use Rattle.gt_base.specs.declared.events.Fluent.TheVariants.{Enabled, Assigned, Granted, Limit, Edge}
use Rattle.gt_base.specs.declared.events.Event.{Event}
use Rattle.gt_base.specs.declared.events.Cond.{Cond}
use Rattle.gt_base.specs.declared.events.Prioritised.{Prioritised}
use Rattle.gt_base.specs.declared.requests.Actor.{Actor}
use Rattle.gt_base.specs.declared.requests.Actor.TheVariants.{Operator, User, Nobody}
use Rattle.gt_base.specs.declared.requests.Request.{Request}
use Rattle.gt_base.specs.declared.requests.Request.TheVariants as requests
use Rattle.gt_base.specs.declared.limits.TheConstants.{LAST_MINUTE}
use Rattle.gtrbac_model.specs.Policy.{Policy}
use Rattle.gtrbac_model.specs.History.{IsNamedWish, ask}
use Rattle.gtrbac_model.specs.WholePolicy.{is_fluent}
use Rattle.policy_words.specs.Wording.{fluent_names}
use Rattle.policy_words.specs.Sayings.{are_names}
use Rattle.policy_words.specs.declared.parts.NamedEvent.{NamedEvent}
use Rattle.policy_words.specs.declared.parts.NamedCond.{NamedCond}
use Rattle.policy_words.specs.declared.parts.NamedHead.{NamedHead}
use Rattle.policy_lines.proofs.Truths.{both, some_is}
use Rattle.policy_lines.proofs.FormWords.{came}
use Rattle.policy_book.proofs.InRange.{IsSized, fluent_in, role_below, user_below, perm_below}
use Rattle.policy_words.specs.Naming.{NamePair, NamedPolicy, role_of, user_of, perm_of, fluent_of, event_of, cond_of, head_of}
use Rattle.policy_words.specs.Valid.{IsWellFormed, pair_of}
use Rattle.request_text.specs.declared.lines.Line.{Line}
use Rattle.request_text.specs.declared.lines.Line.TheVariants as lines
use Rattle.request_text.specs.declared.lines.LineFault.{LineFault}
use Rattle.request_text.specs.declared.phrases.NamedRequest.{NamedRequest}
use Rattle.request_text.specs.declared.phrases.NamedRequest.TheVariants.{Now, Status, Seen, Raise, OpenSession, CloseSession, Activate, Deactivate, Active, Check}
use Rattle.request_text.specs.declared.phrases.Phrase.{Phrase}
use Rattle.request_text.specs.declared.phrases.Phrase.TheVariants.{At, Be, Ask}
use Rattle.request_text.specs.Phrases.{request_of, actor_of, line_of, read_line}
use Rattle.request_text.specs.Spelling.{is_session, is_request, FitsPhrase, IsRead}
use Rattle.request_text.specs.Lines.{IsOpening, IsNamedLine}
use Rattle.request_text.proofs.ReadBySpelling.{lines_are_read}

abbrev Asks : Policy → Request → Type 0
Asks p r = IsNamedWish p (ask Operator r)

status_named : (p : Policy) (on : Bool) (f : Fluent) → is_fluent p f ≡ true → Asks p (requests.Status (record { on = on; fluent = f }))
status_named p on (Enabled r) h = (tt, ltb-true r.0 p.roles h)
status_named p on (Assigned u r) h = let parts = both (nat_lt u.0 p.users) (nat_lt r.0 p.roles) h in (tt, (ltb-true u.0 p.users parts.0, ltb-true r.0 p.roles parts.1))
status_named p on (Granted q r) h = let parts = both (nat_lt q.0 p.perms) (nat_lt r.0 p.roles) h in (tt, (ltb-true q.0 p.perms parts.0, ltb-true r.0 p.roles parts.1))
status_named p on (Limit l) h = (tt, ltb-true l.0 (length p.limits) h)
status_named p on (Edge n) h = (tt, ltb-true n (length p.edges) h)

small_session : (s : SessionId) → is_session s ≡ true → s.0 < 2 ^ 32
small_session s h = omega (arith, leb-true s.0 4_294_967_295 h)

module _ (np : NamedPolicy) (good : IsWellFormed np) where
  sized : IsSized np.names np.policy
  sized = record {
    roles = good.role_count;
    users = good.user_count;
    perms = good.perm_count;
    periods = good.period_count;
    limits = good.limit_count;
    edges = sym (ap (λ (es : List NamePair). length es) good.edge_pairs ∙ length-map np.policy.edges (pair_of np.names));
  }

  role_named : (n : List ℕ) (r : RoleId) → role_of np.names n ≡ Some r → r.0 < np.policy.roles
  role_named n r e = omega (arith, good.role_count, ltb-true r.0 (length np.names.roles) (role_below np.names n r e))

  user_named : (n : List ℕ) (u : UserId) → user_of np.names n ≡ Some u → u.0 < np.policy.users
  user_named n u e = omega (arith, good.user_count, ltb-true u.0 (length np.names.users) (user_below np.names n u e))

  perm_named : (n : List ℕ) (q : PermId) → perm_of np.names n ≡ Some q → q.0 < np.policy.perms
  perm_named n q e = omega (arith, good.perm_count, ltb-true q.0 (length np.names.perms) (perm_below np.names n q e))

  cond_named : (c : NamedCond) (g : Cond) → cond_of np.names c ≡ Some g → Asks np.policy (requests.Status g)
  cond_named c g e =
      let f = came (fluent_of np.names c.fluent) _ g e in
      subst (λ (g : Cond). Asks np.policy (requests.Status g)) (some_is f.then) (status_named np.policy c.on f.it (fluent_in np.names np.policy sized c.fluent f.it f.was))

  event_named : (c : NamedEvent) (g : Event) → event_of np.names c ≡ Some g → Asks np.policy (requests.Seen g)
  event_named c g e =
      let f = came (fluent_of np.names c.fluent) _ g e in
      subst (λ (g : Event). Asks np.policy (requests.Seen g)) (some_is f.then) (status_named np.policy c.on f.it (fluent_in np.names np.policy sized c.fluent f.it f.was))

  head_named : (h : NamedHead) (d : ℕ) (g : Prioritised) → h.prio ≤ 100 → d ≤ LAST_MINUTE → head_of np.names h ≡ Some g → Asks np.policy (requests.Raise g d)
  head_named h d g low short e =
      let f = came (event_of np.names h.event) _ g e in
      subst (λ (g : Prioritised). Asks np.policy (requests.Raise g d)) (some_is f.then) (tt, ((event_named h.event f.it f.was).1, low, short))

  request_named : (r : NamedRequest) (q : Request) → is_request r ≡ true → request_of np r ≡ Some q → Asks np.policy q
  request_named Now q h e = subst (Asks np.policy) (some_is e) (tt, tt)
  request_named (Status c) q h e = let g = came (cond_of np.names c) _ q e in subst (Asks np.policy) (some_is g.then) (cond_named c g.it g.was)
  request_named (Seen s) q h e = let g = came (event_of np.names s) _ q e in subst (Asks np.policy) (some_is g.then) (event_named s g.it g.was)
  request_named (Raise hd d) q h e =
      let outer = both (nat_le hd.prio 100 && are_names (fluent_names hd.event.fluent)) (nat_le d LAST_MINUTE) h in
      let low = leb-true hd.prio 100 (both (nat_le hd.prio 100) (are_names (fluent_names hd.event.fluent)) outer.0).0 in
      let g = came (head_of np.names hd) _ q e in
      subst (Asks np.policy) (some_is g.then) (head_named hd d g.it low (leb-true d LAST_MINUTE outer.1) g.was)
  request_named OpenSession q h e = subst (Asks np.policy) (some_is e) (tt, tt)
  request_named (CloseSession s) q h e = subst (Asks np.policy) (some_is e) (tt, small_session s h)
  request_named (Activate s r) q h e =
      let g = came (role_of np.names r) _ q e in
      subst (Asks np.policy) (some_is g.then) (tt, (small_session s (both (is_session s) (is_name r) h).0, role_named r g.it g.was))
  request_named (Deactivate s r) q h e =
      let g = came (role_of np.names r) _ q e in
      subst (Asks np.policy) (some_is g.then) (tt, (small_session s (both (is_session s) (is_name r) h).0, role_named r g.it g.was))
  request_named (Active s r) q h e =
      let g = came (role_of np.names r) _ q e in
      subst (Asks np.policy) (some_is g.then) (tt, (small_session s (both (is_session s) (is_name r) h).0, role_named r g.it g.was))
  request_named (Check s q) r h e =
      let g = came (perm_of np.names q) _ r e in
      subst (Asks np.policy) (some_is g.then) (tt, (small_session s (both (is_session s) (is_name q) h).0, perm_named q g.it g.was))

  opens : (opening : Actor) → IsOpening opening → IsNamedWish np.policy (ask opening requests.Now)
  opens Operator h = (tt, tt)
  opens (User u) h = absurd h
  opens Nobody h = (tt, tt)

  actor_named : (opening : Actor) (u : Option (List ℕ)) (a : Actor) → IsOpening opening → actor_of np opening u ≡ Some a → IsNamedWish np.policy (ask a requests.Now)
  actor_named opening None a h e = subst (λ a. IsNamedWish np.policy (ask a requests.Now)) (some_is e) (opens opening h)
  actor_named opening (Some u) a h e =
      let g = came (user_of np.names u) _ a e in
      subst (λ a. IsNamedWish np.policy (ask a requests.Now)) (some_is g.then) (user_named u g.it g.was, tt)

  line_named : (opening : Actor) (phrase : Phrase) (l : Line) → IsOpening opening → FitsPhrase phrase → line_of np opening phrase ≡ Some l → IsNamedLine np.policy l
  line_named opening (At t) l h fits e = subst (IsNamedLine np.policy) (some_is e) fits
  line_named opening (Be u) l h fits e = let g = came (actor_of np opening u) _ l e in subst (IsNamedLine np.policy) (some_is g.then) (actor_named opening u g.it h g.was)
  line_named opening (Ask r) l h fits e = let g = came (request_of np r) _ l e in subst (IsNamedLine np.policy) (some_is g.then) (request_named r g.it fits g.was)

  by_reading : (opening : Actor) (script : Bool) (line : List ℕ) (l : Line) → IsOpening opening → IsRead np opening script line (Ok l) → IsNamedLine np.policy l
  by_reading opening script line lines.Silent h is = tt
  by_reading opening script line (lines.At t) h (loud, gives) = line_named opening gives.0 (lines.At t) h gives.1.fits gives.2
  by_reading opening script line (lines.Be a) h (loud, gives) = line_named opening gives.0 (lines.Be a) h gives.1.fits gives.2
  by_reading opening script line (lines.Ask r) h (loud, gives) = line_named opening gives.0 (lines.Ask r) h gives.1.fits gives.2

  pub read_named : (opening : Actor) (script : Bool) (line : List ℕ) (l : Line) → IsOpening opening → read_line np opening script line ≡ Ok l → IsNamedLine np.policy l
  read_named opening script line l h e = by_reading opening script line l h ((lines_are_read np opening script line (Ok l)).0 e)

  pub all_named : (opening : Actor) (script : Bool) (line : List ℕ) (r : Result Line LineFault) → IsOpening opening → r ≡ read_line np opening script line → IfOk r (λ l. IsNamedLine np.policy l)
  all_named opening script line (Ok l) h e = read_named opening script line l h (sym e)
  all_named opening script line (Err f) h e = tt
