-- What the proof of the five uses.
mod ReadLaws
mod KindLaws
mod ItemLaws
mod TurnLaws
