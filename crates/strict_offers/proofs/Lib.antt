mod GoodParts
mod LatestBegins
mod OffersKept
mod Refusing
mod Timed
