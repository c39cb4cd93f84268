-- A request that only looks gets the same with and without the entries that only look.
use Rattle.std.proofs.Common.{◌≡◌, List, sym, ◌∙◌, ap, subst}
use Rattle.gt_base.specs.declared.requests.Actor.{Actor}
use Rattle.gt_base.specs.declared.requests.Request.{Request}
use Rattle.gt_base.specs.declared.requests.Reply.{Reply}
use Rattle.gt_base.specs.declared.requests.Entry.{Entry}
use Rattle.gtrbac_model.specs.Reply.{reply_of}
use Rattle.gtrbac_model.proofs.Playing.{point_same}
use Rattle.history_laws.specs.Histories.{TellSame}
use Rattle.history_laws.proofs.Silent.{looks_may_be_left_out, model_same, point_same as told_same}
use Rattle.core_machine.specs.Books.{BookView, model_in, reply_in, IsReplyAmongLooks, HasOnlyModel}

pub among_looks : (b : BookView) (actor : Actor) (request : Request) (reply : Reply) → HasOnlyModel b → reply ≡ reply_in b actor request → IsReplyAmongLooks b actor request reply
among_looks b actor request reply only is h m left_out model =
    let p = b.named.policy in
    let same : TellSame p b.birth m h b.entries = subst (λ (k : List Entry). TellSame p b.birth m h k) left_out (looks_may_be_left_out p b.birth m h) in
    is ∙ ap (λ pt. reply_of p pt actor request)
    (sym (point_same p b.birth m (model_in b) b.entries (only m (model_same p b.birth m h b.entries same model)))
    ∙ sym (told_same p b.birth m h b.entries same))
