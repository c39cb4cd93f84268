-- A viewer's link that nothing hinders is complete.
use Rattle.std.proofs.Common.{◌≡◌, ℕ, Bool, true, false, List, [], refl, sym, subst}
use Rattle.std.specs.Prelude.{MatchBool}
use Rattle.gt_base.specs.declared.requests.Actor.{Actor}
use Rattle.gt_base.specs.declared.requests.Request.{Request}
use Rattle.gt_base.specs.declared.requests.Entry.{Entry}
use Rattle.gt_io.specs.Links.{Traffic}
use Rattle.policy_words.specs.Naming.{NamedPolicy}
use Rattle.history_laws.specs.Looks.{is_look}
use Rattle.connection_laws.specs.Lines.{Answer, view_only, Acted}
use Rattle.connection_laws.specs.Attending.{EndsBy, IsUnhindered, IsComplete}
use Rattle.connection_laws.proofs.Linking as Link
use Rattle.snapshot_readers.specs.declared.ends.ViewEnd.{ViewEnd}
use Rattle.snapshot_readers.proofs.Looking.{look_by}
use Rattle.snapshot_readers.specs.Viewed.{link_end, Looks, AsksView, View, IsViewAnswered}

module _ (np : NamedPolicy) (birth : ℕ) (h : List Entry) where
  looked : (actor : Actor) (request : Request) (answer : Answer) → is_look request ≡ true → Looks np birth h actor request answer → IsViewAnswered request answer
  looked actor request answer is l = look_by np birth h actor request (λ (a : Answer). IsViewAnswered request a) (λ n reply s. is) is answer l

  by_look : (b : Bool) (actor : Actor) (request : Request) (answer : Answer) → is_look request ≡ b → MatchBool b (Looks np birth h actor request answer) (answer ≡ view_only) → IsViewAnswered request answer
  by_look true actor request answer is l = looked actor request answer is l
  by_look false actor request answer is l = subst (λ (x : Answer). IsViewAnswered request x) (sym l) is

  pub complete_by : (taken given : List ℕ) (acted : List Acted) (end : ViewEnd) (a b : Traffic) → View np birth h taken given acted end → EndsBy (λ (n : ℕ). ⊥) a b taken (link_end end) → IsUnhindered a b taken (link_end end)
      → IsComplete IsViewAnswered np taken acted (link_end end)
  complete_by taken given acted end a b =
      Link.complete_by (AsksView np birth h) IsViewAnswered
      (λ actor request answer n readings entries u s. by_look (is_look request) actor request answer refl s.0) np 0 (λ (n : ℕ). ⊥) taken [] [] given acted (link_end end) a b
