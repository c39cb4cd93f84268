-- How long entries are.
use Rattle.std.proofs.Common.{◌≡◌, ◌+◌, ◌≤◌, ◌++◌, length, decimal, ap, arith, length-append}
use Rattle.std.specs.Prelude.{ℕ, codes, nat_le, ◌&&◌}
use Rattle.std.specs.List.{list_all}
use Rattle.gt_base.specs.Names.{is_name}
use Rattle.gt_base.specs.declared.events.UserId.{UserId}
use Rattle.gt_base.specs.declared.requests.Who.{Who}
use Rattle.gt_base.specs.declared.requests.Actor.{Actor}
use Rattle.gt_base.specs.declared.requests.Actor.TheVariants.{Operator, User, Nobody}
use Rattle.gt_base.specs.declared.requests.Request.{Request}
use Rattle.gt_base.specs.declared.requests.Step.{Step}
use Rattle.gt_base.specs.declared.requests.Step.TheVariants.{Tick, Ask}
use Rattle.gt_base.specs.declared.requests.Entry.{Entry}
use Rattle.civil_time.specs.Text.{civil_text}
use Rattle.policy_book.proofs.Places.{name_read}
use Rattle.policy_lines.proofs.Truths.{both}
use Rattle.policy_words.specs.Naming.{NamedPolicy, user_name}
use Rattle.policy_words.specs.Valid.{IsWellFormed}
use Rattle.request_text.specs.Fitting.{IsShortStep, IsSmallStep}
use Rattle.request_text.specs.Replies.{who_text, actor_text, request_text, reply_text, step_text, entry_line}
use Rattle.request_text.specs.Tellable.{IsSmallWho}
use Rattle.request_text.specs.Walks.{tick_text, asked_text}
use Rattle.request_text.proofs.Lengths.{short_at, short_reply, ten}
use Rattle.request_text.proofs.ShortRequests.{short_request}
use Rattle.request_text.proofs.WrittenRequests.{Asks}

pub tick_length : (w : Who) (to upto : ℕ) → length (tick_text w to upto) ≡ length (who_text w) + 48
tick_length w to upto =
    let who = who_text w in
    omega (
      arith,
      length-append (codes "tick " ++ who ++ codes " to " ++ civil_text to ++ codes " bound ") (civil_text upto),
      length-append (codes "tick " ++ who ++ codes " to " ++ civil_text to) (codes " bound "),
      length-append (codes "tick " ++ who ++ codes " to ") (civil_text to),
      length-append (codes "tick " ++ who) (codes " to "),
      length-append (codes "tick ") who,
    )

module _ (np : NamedPolicy) (good : IsWellFormed np) where
  short_who : (w : Who) → IsSmallWho w → length (who_text w) ≤ 21
  short_who w h =
      omega (
        arith,
        length-append (decimal w.worker ++ codes ".") (decimal w.conn),
        length-append (decimal w.worker) (codes "."),
        ten np good w.worker h.0,
        ten np good w.conn h.1,
      )

  short_user : (u : UserId) → length (user_name np.names u) ≤ 32
  short_user u =
      let parts = both (nat_le (length np.names.users) 10_000 && list_all is_name np.names.users) _ good.users in
      let all = (both (nat_le (length np.names.users) 10_000) (list_all is_name np.names.users) parts.0).1 in
      omega (arith, ap length (name_read np.names.users u.0), short_at np.names.users u.0 all)

  short_actor : (a : Actor) → length (actor_text np a) ≤ 32
  short_actor Operator = omega arith
  short_actor (User u) = short_user u
  short_actor Nobody = omega arith

  short_tick : (w : Who) (to upto : ℕ) → IsSmallWho w → length (tick_text w to upto) ≤ 69
  short_tick w to upto h = omega (arith, tick_length w to upto, short_who w h)

  short_asked : (w : Who) (a : Actor) (r : Request) → IsSmallWho w → Asks np.policy r → length (asked_text np w a r) ≤ 574
  short_asked w a r h asks =
      let who = who_text w in
      let actor = actor_text np a in
      let request = request_text np r in
      omega (
        arith,
        length-append (codes "ask " ++ who ++ codes " " ++ actor ++ codes " " ++ request) (codes " = "),
        length-append (codes "ask " ++ who ++ codes " " ++ actor ++ codes " ") request,
        length-append (codes "ask " ++ who ++ codes " " ++ actor) (codes " "),
        length-append (codes "ask " ++ who ++ codes " ") actor,
        length-append (codes "ask " ++ who) (codes " "),
        length-append (codes "ask ") who,
        short_who w h,
        short_actor a,
        short_request np good r asks,
      )

  line_length : (w : Who) (s : Step) → IsSmallWho w → IsShortStep np.policy s → IsSmallStep s → length (step_text np w s ++ codes "\n") ≤ 33_584
  line_length w (Tick upto to) who short small = omega (arith, length-append (tick_text w to upto) (codes "\n"), short_tick w to upto who)
  line_length w (Ask actor request reply) who short small =
      let asked = asked_text np w actor request in
      let told = reply_text np reply in
      omega (arith, length-append (asked ++ told) (codes "\n"), length-append asked told, short_asked w actor request who short.0, short_reply np good reply small short.1)

  pub entry_length : (e : Entry) → IsSmallWho e.who → IsShortStep np.policy e.what → IsSmallStep e.what → length (entry_line np e) ≤ 33_584
  entry_length e who short small = line_length e.who e.what who short small
