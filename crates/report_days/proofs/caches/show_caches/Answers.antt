use Rattle.report_days.proofs.caches.show_caches.Goals as goal

pub loop-i-init : goal.loop-i-init
loop-i-init c = c.new-cache.ensures.ready c.args.trace.now
